-- What the exported report answers, and what it leaves in the room that it is lent.
use Rattle.std.specs.Prelude.{◌≡◌, ℕ, ◌<◌, ◌≤◌, List, ◌++◌, length, drop}
use Rattle.report.specs.Output.{Reported}

-- The report's length, and the report in front of the room, whose rest is as it was; a room that is too short for it is as it was, and
-- so it is where there was no memory, which 0 tells: no report is that short.
pub data Given (rules log was left : List ℕ) (r : ℕ) : Type 0 where
  given : (text : List ℕ) → Reported rules log text → 0 < length text → r ≡ length text → length text ≤ length was
      → left ≡ text ++ drop (length text) was → Given rules log was left r
  short : (text : List ℕ) → Reported rules log text → 0 < length text → r ≡ length text → length was < length text → left ≡ was → Given rules log was left r
  no_memory : r ≡ 0 → left ≡ was → Given rules log was left r
