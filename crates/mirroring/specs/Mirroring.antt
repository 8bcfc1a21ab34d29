-- What settling a mirrored sheet on a reversed trace leaves.
use Rattle.std.specs.Prelude.{◌≡◌, ℕ, ◌+◌, ◌-◌, ◌<◌, ◌≤◌, List, length, Ok, Err, Result, slice_index_or}
use Rattle.sheet.specs.Sheets.{formula}
use Rattle.sheet.specs.declared.row.Row.{Row}
use Rattle.trace.specs.Readings.{Reading}
use Rattle.label.specs.Labels.{label_at}
use Rattle.label.specs.Strips.{cell}
use Rattle.label.specs.Theorems.{Tells}
use Rattle.label.specs.Truth.{Holds}
use Rattle.label.specs.declared.refusal.Refusal.{Refusal}
use Rattle.label.specs.declared.verdict.Verdict.{Verdict}
use Rattle.label.specs.declared.verdict.Verdict.TheVariants.{No}

-- a verdict is the settled verdict of a row of the sheet at an instant of the trace, and tells truly whether the row holds there
pub record Settles (rs : List Reading) (rows : List Row) (i r : ℕ) (v : Verdict) : Type 0 where
  pub label : v ≡ label_at No rs rows i r
  pub truth : Tells v (Holds rs (formula rows r) i)

-- where it is accepted, the cell of each row at n - i + 1 is what the sheet as it was gives at i on the trace as it was
abbrev pub FromTheEnd : Result ℕ Refusal → List Reading → List Row → List Verdict → Type 0
FromTheEnd (Ok n) rs rows strip = (i r : ℕ) → 1 ≤ i → i ≤ n → r < length rows → Settles rs rows i r (slice_index_or strip (cell (length rows) (n - i + 1) r) No)
FromTheEnd (Err x) rs rows strip = Unit {0}
