-- What the refusal of a log record tells. Assumes nothing.
use Rattle.std.specs.Prelude.{ℕ, List, [], ◌∷◌, codes}
use Rattle.logfile.specs.declared.record.BadRecord.{BadRecord}

-- what a refusal tells: its number, its word, and the values told with it
pub record Telling : Type 0 where
  pub number : ℕ
  pub word : List ℕ
  pub values : List ℕ

-- a bad record: the value is the place of its first byte
abbrev pub bad_record : ℕ → Telling
bad_record place = record { number = 16; word = codes "bad record"; values = place ∷ [] }

-- what each refusal of the reader tells
abbrev pub telling : BadRecord → Telling
telling e = bad_record e.place
