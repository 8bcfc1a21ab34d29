-- The fold over the formula of a row.
use Rattle.std.specs.Prelude.{ℕ, ◌<◌, ◌≤◌, List, length, get_or, take, Some, None, Option}
use Rattle.sheet.specs.declared.row.Row.{Row}
use Rattle.sheet.specs.declared.row.Row.TheVariants as row

-- The value of the formula of the row with this number among the rows, where there is a number. `Parts` says which operands of a row
-- are looked at, among the rows before it, and `Gives` which value the row may have by their values; what is not there, or not
-- looked at, has the value `absent`.
pub data Folded {T : Type 0} (Parts : Row → Option ℕ × Option ℕ → Type 0) (Gives : Row → T → T → T → Type 0) (absent : T) : List Row → Option ℕ → T → Type 0 where
  no_row : {rows : List Row} → Folded Parts Gives absent rows None absent
  too_high : {rows : List Row} {r : ℕ} → length rows ≤ r → Folded Parts Gives absent rows (Some r) absent
  of_row : {rows : List Row} {r : ℕ} {p : Option ℕ × Option ℕ} {a b x : T} → r < length rows
      → Parts (get_or rows r row.True) p
      → Folded Parts Gives absent (take r rows) p.0 a
      → Folded Parts Gives absent (take r rows) p.1 b
      → Gives (get_or rows r row.True) a b x
      → Folded Parts Gives absent rows (Some r) x
