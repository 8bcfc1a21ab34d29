-- What the loop of `copy_figures` keeps: the figures so far are in front, and the rest is as it was.
use Rattle.std.proofs.Common.{◌≡◌, ◌++◌, take, drop}
use Rattle.register.specs.State.{state}
use Rattle.exports.proofs.taking.copy_figures.Given as goal

abbrev pub invariant-loop-k : goal.invariant-loop-k
invariant-loop-k l = l.front ≡ take l.k (state l.register).held.sums ++ drop l.k l.initial.front
