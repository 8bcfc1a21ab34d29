-- What the refusal of a rule text tells. Assumes nothing.
use Rattle.std.specs.Prelude.{ℕ, List, [], ◌∷◌, ◌++◌, Some, None, codes, decimal, Option}
use Rattle.sheet.specs.Refusals as sheet
use Rattle.sheet.specs.Refusals.{Code}
use Rattle.text.specs.declared.refusal.Misreading.TheVariants.{BadText, TooDeep}
use Rattle.text.specs.declared.refusal.TextRefusal.{TextRefusal}
use Rattle.text.specs.declared.refusal.TextRefusal.TheVariants.{Text, Row}

-- each refusal's number and values: 14 and 15 have a place, and a row's or rule's refusal has what the sheet tells of it
abbrev pub code : TextRefusal → Code
code (Text (BadText p)) = record { number = 14; values = p ∷ [] }
code (Text (TooDeep p)) = record { number = 15; values = p ∷ [] }
code (Row e) = sheet.code e

-- the first of some values, if there is one
abbrev pub first_value : List ℕ → Option ℕ
first_value [] = None
first_value (v ∷ vs) = Some v

-- the place among a refusal's values, if there is one
abbrev pub place : TextRefusal → Option ℕ
place e = first_value (code e).values

-- each refusal in words
abbrev pub spelling : TextRefusal → List ℕ
spelling (Text (BadText p)) = codes "bad text"
spelling (Text (TooDeep p)) = codes "too deep"
spelling (Row e) = sheet.spelling e

-- a refusal as it is printed: its number, and its words
abbrev pub printed : TextRefusal → List ℕ
printed e = decimal (code e).number ++ (codes ", " ++ spelling e)
