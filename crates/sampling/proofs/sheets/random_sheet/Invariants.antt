-- What the loop of `random_sheet` keeps.
use Rattle.std.proofs.Common.{◌≤◌, length}
use Rattle.sheet.specs.Contents.{rows_of, rules_of}
use Rattle.sampling.proofs.sheets.random_sheet.Given as goal

-- few rows, and no more rules than turns
abbrev pub invariant-loop-k : goal.invariant-loop-k
invariant-loop-k l = (length (rows_of l.sheet) ≤ 13) × (length (rules_of l.sheet) ≤ l._k)
