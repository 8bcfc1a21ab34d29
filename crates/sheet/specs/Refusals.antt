-- What a refusal is told by: a number with values, and a word.
use Rattle.std.specs.Prelude.{ℕ, List, [], ◌++◌, Ok, Err, codes, decimal, Result}
use Rattle.sheet.specs.declared.refusal.Refusal.{Refusal}
use Rattle.sheet.specs.declared.refusal.Refusal.TheVariants.{SheetFull, BadOperand, Unseparated}

-- the number of a refusal, and the values told with it
pub record Code : Type 0 where
  pub number : ℕ
  pub values : List ℕ

-- each refusal's number; none has values
abbrev pub code : Refusal → Code
code SheetFull = record { number = 11; values = [] }
code BadOperand = record { number = 12; values = [] }
code Unseparated = record { number = 13; values = [] }

-- each refusal in words
abbrev pub spelling : Refusal → List ℕ
spelling SheetFull = codes "sheet full"
spelling BadOperand = codes "bad operand"
spelling Unseparated = codes "unseparated"

-- a refusal as it is printed: its number, and its words
abbrev pub printed : Refusal → List ℕ
printed x = decimal (code x).number ++ (codes ", " ++ spelling x)

-- what a call tells: a number where it accepts, a refusal's code where it refuses
pub data Told : Type 0 where
  accepted : ℕ → Told
  refused : Code → Told

-- an answer as it is told
abbrev pub told : Result ℕ Refusal → Told
told (Ok n) = accepted n
told (Err x) = refused (code x)
