-- The inner steps of labelling: one cell from its neighbours, and how far a sweep has come. No public promise cites these.
use Rattle.std.specs.Prelude.{◌≡◌, ℕ, ◌<◌, ◌≤◌, Bool, true, cond, List, length, nat_lt, slice_index_or}
use Rattle.sheet.specs.Classes.{present_or_past}
use Rattle.sheet.specs.Rows.{class_at}
use Rattle.sheet.specs.Sheets.{classes_of}
use Rattle.sheet.specs.declared.row.Row.{Row}
use Rattle.sheet.specs.declared.row.Row.TheVariants as row
use Rattle.trace.specs.Readings.{Reading, shows}
use Rattle.label.specs.Labels.{label_at}
use Rattle.label.specs.Strips.{cell}
use Rattle.label.specs.Verdicts.{lower, higher, swapped, yes_if}
use Rattle.label.specs.declared.verdict.Verdict.{Verdict}
use Rattle.label.specs.declared.verdict.Verdict.TheVariants.{No, Yes}

-- a row's verdict from the verdicts of the rows before it at the same instant,
-- and from what the neighbouring instant gives
abbrev pub row_verdict : Row → Reading → (ℕ → Verdict) → Verdict → Verdict
row_verdict row.True rd here near = Yes
row_verdict row.False rd here near = No
row_verdict (row.Symbol s) rd here near = yes_if (shows rd s)
row_verdict (row.Not a) rd here near = swapped (here a)
row_verdict (row.And a b) rd here near = lower (here a) (here b)
row_verdict (row.Or a b) rd here near = higher (here a) (here b)
row_verdict (row.Next a) rd here near = near
row_verdict (row.Yest a) rd here near = near
row_verdict (row.Until a b) rd here near = higher (here b) (lower (here a) near)
row_verdict (row.Since a b) rd here near = higher (here b) (lower (here a) near)
row_verdict row.Start rd here near = near
row_verdict row.End rd here near = near

-- what the instant before i gives to row r, where prev gives the verdicts of rows at that instant
abbrev pub near_before : (ℕ → Verdict) → ℕ → ℕ → Row → Verdict
near_before prev i r row.True = No
near_before prev i r row.False = No
near_before prev i r (row.Symbol s) = No
near_before prev i r (row.Not a) = No
near_before prev i r (row.And a b) = No
near_before prev i r (row.Or a b) = No
near_before prev i r (row.Next a) = No
near_before prev i r (row.Yest a) = cond (nat_lt 1 i) (prev a) No
near_before prev i r (row.Until a b) = No
near_before prev i r (row.Since a b) = cond (nat_lt 1 i) (prev r) No
near_before prev i r row.Start = cond (nat_lt 1 i) No Yes
near_before prev i r row.End = No

-- what the instant after i of n gives to row r, where next gives the verdicts of rows at that instant and e is the verdict beyond
abbrev pub near_after : (ℕ → Verdict) → Verdict → ℕ → ℕ → ℕ → Row → Verdict
near_after next e n i r row.True = No
near_after next e n i r row.False = No
near_after next e n i r (row.Symbol s) = No
near_after next e n i r (row.Not a) = No
near_after next e n i r (row.And a b) = No
near_after next e n i r (row.Or a b) = No
near_after next e n i r (row.Next a) = cond (nat_lt i n) (next a) e
near_after next e n i r (row.Yest a) = No
near_after next e n i r (row.Until a b) = cond (nat_lt i n) (next r) e
near_after next e n i r (row.Since a b) = No
near_after next e n i r row.Start = No
near_after next e n i r row.End = cond (nat_lt i n) No (swapped e)

-- the rows that look back at most
abbrev pub back_only : List Row → ℕ → Bool
back_only rows r = present_or_past (class_at (classes_of rows) r)

-- all rows
abbrev pub any_row : ℕ → Bool
any_row r = true

-- the cells of the picked rows hold their verdicts at the instants from lo to hi
abbrev pub Filled : (ℕ → Bool) → Verdict → List Reading → List Row → ℕ → ℕ → List Verdict → Type 0
Filled pick e rs rows lo hi strip = (i r : ℕ) → lo ≤ i → i ≤ hi → r < length rows → pick r ≡ true → slice_index_or strip (cell (length rows) i r) No ≡ label_at e rs rows i r
