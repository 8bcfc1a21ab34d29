-- A strip of verdict cells, and what labelling leaves in it.
use Rattle.std.specs.Prelude.{ℕ, ◌+◌, ◌-◌, ◌*◌, cond, List, ◌++◌, map, length, drop, Ok, Err, Result, nat_le}
use Rattle.std.specs.List.{range_with_len, flat_map}
use Rattle.sheet.specs.declared.row.Row.{Row}
use Rattle.trace.specs.Readings.{Reading}
use Rattle.label.specs.Labels.{label_at}
use Rattle.label.specs.declared.refusal.Refusal.{Refusal}
use Rattle.label.specs.declared.refusal.Refusal.TheVariants.{ShortStrip}
use Rattle.label.specs.declared.verdict.Verdict.{Verdict}

-- the cell of row r at instant i, where a sheet has m rows
abbrev pub cell : ℕ → ℕ → ℕ → ℕ
cell m i r = (i - 1) * m + r

-- what labelling n instants by m rows into so many cells answers
abbrev pub label_answer : ℕ → ℕ → ℕ → Result ℕ Refusal
label_answer n m cells = cond (nat_le (n * m) cells) (Ok n) (Err ShortStrip)

-- the verdicts of all rows at the n instants of a trace, instant after instant
abbrev pub labels : Verdict → List Reading → List Row → List Verdict
labels e rs rows = flat_map (λ i. map (label_at e rs rows i) (range_with_len 0 (length rows))) (range_with_len 1 (length rs))

-- a strip after labelling: the labels, and the cells past them as they were; after a refusal it is as it was
abbrev pub labelled : Result ℕ Refusal → Verdict → List Reading → List Row → List Verdict → List Verdict
labelled (Ok n) e rs rows was = labels e rs rows ++ drop (length rs * length rows) was
labelled (Err x) e rs rows was = was
