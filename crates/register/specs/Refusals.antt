-- What a refusal is told by: a number with values, and a word.
use Rattle.std.specs.Prelude.{ℕ, List, [], ◌∷◌, ◌++◌, codes, decimal}
use Rattle.sheet.specs.Refusals.{Code}
use Rattle.register.specs.declared.refusal.Refusal.{Refusal}
use Rattle.register.specs.declared.refusal.Refusal.TheVariants.{Blank, Unreadable, ShortStrip, Full, AlreadyOpen, WrongSlip, NoCode, Long, NoInstant, NoRule}

-- each refusal's number; only an unreadable instant has values: the instant, and its fault whole
abbrev pub code : Refusal → Code
code Blank = record { number = 1; values = [] }
code (Unreadable u) = record { number = 2; values = u.instant ∷ u.fault.cause ∷ u.fault.place ∷ u.fault.layers ∷ [] }
code ShortStrip = record { number = 3; values = [] }
code Full = record { number = 4; values = [] }
code AlreadyOpen = record { number = 5; values = [] }
code WrongSlip = record { number = 6; values = [] }
code NoCode = record { number = 7; values = [] }
code Long = record { number = 8; values = [] }
code NoInstant = record { number = 9; values = [] }
code NoRule = record { number = 10; values = [] }

-- each refusal in words
abbrev pub spelling : Refusal → List ℕ
spelling Blank = codes "blank"
spelling (Unreadable u) = codes "unreadable"
spelling ShortStrip = codes "short strip"
spelling Full = codes "full"
spelling AlreadyOpen = codes "already open"
spelling WrongSlip = codes "wrong slip"
spelling NoCode = codes "no code"
spelling Long = codes "long"
spelling NoInstant = codes "no instant"
spelling NoRule = codes "no rule"

-- a refusal as it is printed: its number, and its words
abbrev pub printed : Refusal → List ℕ
printed x = decimal (code x).number ++ (codes ", " ++ spelling x)
