-- What a caller is told of a refusal. Assumes nothing.
use Rattle.std.specs.Prelude.{ℕ, List, [], Some, None, Ok, Err, codes, decimal, ◌++◌, Option, Result}
use Rattle.layers.specs.declared.refusal.Refusal.{Refusal}
use Rattle.layers.specs.declared.refusal.Refusal.TheVariants.{BadRenaming}

-- a refusal by its number and the values that come with it
pub record Refused : Type 0 where
  pub number : ℕ
  pub values : List ℕ

-- the number of each refusal
abbrev pub refusal_number : Refusal → ℕ
refusal_number BadRenaming = 17

-- the word of each refusal
abbrev pub refusal_word : Refusal → List ℕ
refusal_word BadRenaming = codes "bad renaming"

-- a refusal as it is printed: its number, and its word
abbrev pub printed : Refusal → List ℕ
printed x = decimal (refusal_number x) ++ (codes ", " ++ refusal_word x)

-- number and values of each refusal
abbrev pub refused : Refusal → Refused
refused BadRenaming = record { number = refusal_number BadRenaming; values = [] }

-- what a call tells: nothing where it is accepted, else the refusal
abbrev pub told : {X : Type 0} → Result X Refusal → Option Refused
told (Ok x) = None
told (Err e) = Some (refused e)
