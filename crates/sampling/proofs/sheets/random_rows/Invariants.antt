-- What the loop of `random_rows` keeps.
use Rattle.std.proofs.Common.{◌≡◌, ◌≤◌, [], length}
use Rattle.sheet.specs.Contents.{rows_of, rules_of}
use Rattle.sampling.proofs.sheets.random_rows.Given as goal

-- no more rows than turns, and no rule
abbrev pub invariant-loop-k : goal.invariant-loop-k
invariant-loop-k l = (length (rows_of l.sheet) ≤ l._k) × (rules_of l.sheet ≡ [])
