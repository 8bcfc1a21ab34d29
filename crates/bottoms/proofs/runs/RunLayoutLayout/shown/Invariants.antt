use Rattle.std.proofs.Common.{◌≡◌}
use Rattle.std.specs.List.{slice_get}
use Rattle.bottoms.proofs.Walk.{rest}
use Rattle.bottoms.proofs.runs.RunLayoutLayout.shown.Given as goal

abbrev pub invariant-loop-k : goal.invariant-loop-k
invariant-loop-k l = slice_get (rest l.pairs l.lone l.k) l.left ≡ slice_get (rest l.pairs l.lone 0) l.index
