use Rattle.std.proofs.Common.{◌≡◌, ◌≤◌, length, ◌+◌, ◌-◌}
use Rattle.std.specs.List.{slice_get}
use Rattle.bottoms.proofs.Walk.{rest}
use Rattle.bottoms.proofs.runs.RunLayoutLayout.extent.Given as goal

abbrev pub invariant-loop-k : goal.invariant-loop-k
invariant-loop-k l =
    (l.total ≤ 1024)
    × (l.total + length (rest l.pairs l.lone l.k) ≡ length (rest l.pairs l.lone 0))
    × (slice_get (rest l.pairs l.lone l.k) (1024 - l.total) ≡ slice_get (rest l.pairs l.lone 0) 1024)
