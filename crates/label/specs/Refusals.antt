-- What a refusal to label is told by: a number with values, and a word.
use Rattle.std.specs.Prelude.{ℕ, List, [], Ok, Err, codes, Result}
use Rattle.sheet.specs.Refusals.{Code, Told, accepted, refused}
use Rattle.label.specs.declared.refusal.Refusal.{Refusal}
use Rattle.label.specs.declared.refusal.Refusal.TheVariants.{ShortStrip}

-- the refusal's number; it has no values
abbrev pub code : Refusal → Code
code ShortStrip = record { number = 3; values = [] }

-- the refusal in words
abbrev pub spelling : Refusal → List ℕ
spelling ShortStrip = codes "short strip"

-- an answer as it is told
abbrev pub told : Result ℕ Refusal → Told
told (Ok n) = accepted n
told (Err x) = refused (code x)
