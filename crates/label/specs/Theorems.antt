-- What labelling means: the theorems above the labelling rules.
use Rattle.std.specs.Prelude.{◌≡◌, ℕ, ◌+◌, ◌-◌, ◌<◌, ◌≤◌, List, ◌++◌, map, reverse, length, Ok, Err, Result, ◌≢◌, slice_index_or}
use Rattle.label.specs.Strips.{cell}
use Rattle.label.specs.declared.refusal.Refusal.{Refusal}
use Rattle.sheet.specs.Formulas.{Formula}
use Rattle.label.specs.Labels.{verdict, label_at}
use Rattle.sheet.specs.Rows.{mirror_row}
use Rattle.sheet.specs.Sheets.{formula}
use Rattle.label.specs.Truth.{Holds}
use Rattle.sheet.specs.declared.row.Row.{Row}
use Rattle.trace.specs.Readings.{Reading}
use Rattle.label.specs.declared.verdict.Verdict.{Verdict}
use Rattle.label.specs.declared.verdict.Verdict.TheVariants.{No, Open, Yes}

-- a verdict tells truly whether P holds, where it tells at all
abbrev pub Tells : Verdict → Type 0 → Type 0
Tells No P = P → ⊥
Tells Open P = Unit {0}
Tells Yes P = P

-- the settled verdict is the truth value: never open, yes where the formula holds and no where it does not
abbrev pub SettledIsTruth : Type 0
SettledIsTruth = (rs : List Reading) (f : Formula) (i : ℕ) → 1 ≤ i → i ≤ length rs → Tells (verdict No rs f i) (Holds rs f i) × (verdict No rs f i ≢ Open)

-- a standing yes or no is the truth value on every trace that goes on from this one, this one included
abbrev pub StandingIsFinal : Type 0
StandingIsFinal = (rs more : List Reading) (f : Formula) (i : ℕ) → 1 ≤ i → i ≤ length rs → Tells (verdict Open rs f i) (Holds (rs ++ more) f i)

-- a mirrored row holds on the reversed trace, counted from its other end, exactly where the row holds
abbrev pub MirrorAgrees : Type 0
MirrorAgrees = (rs : List Reading) (rows : List Row) (r i : ℕ) → 1 ≤ i → i ≤ length rs →
    (Holds (reverse rs) (formula (map mirror_row rows) r) (length rs - i + 1) → Holds rs (formula rows r) i)
    × (Holds rs (formula rows r) i → Holds (reverse rs) (formula (map mirror_row rows) r) (length rs - i + 1))

-- the settled verdicts of a mirrored sheet on the reversed trace are those of the sheet, from the other end
abbrev pub MirrorLabels : Type 0
MirrorLabels = (rs : List Reading) (rows : List Row) (r i : ℕ) → 1 ≤ i → i ≤ length rs →
    label_at No (reverse rs) (map mirror_row rows) (length rs - i + 1) r ≡ label_at No rs rows i r

-- after settling, each cell of a strip tells truly whether its row holds at its instant, and none is open
abbrev pub Truly : Result ℕ Refusal → List Reading → List Row → List Verdict → Type 0
Truly (Ok n) rs rows strip = (i r : ℕ) → 1 ≤ i → i ≤ n → r < length rows → Tells (slice_index_or strip (cell (length rows) i r) No) (Holds rs (formula rows r) i) × (slice_index_or strip (cell (length rows) i r) No ≢ Open)
Truly (Err x) rs rows strip = Unit {0}

-- after a standing labelling, a cell that is not open tells the truth on every trace that goes on from this one
abbrev pub Finally : Result ℕ Refusal → List Reading → List Row → List Verdict → Type 0
Finally (Ok n) rs rows strip = (more : List Reading) (i r : ℕ) → 1 ≤ i → i ≤ n → r < length rows → Tells (slice_index_or strip (cell (length rows) i r) No) (Holds (rs ++ more) (formula rows r) i)
Finally (Err x) rs rows strip = Unit {0}
