-- What the loop of `passing` keeps.
use Rattle.std.proofs.Common.{◌-◌, get_or}
use Rattle.evaluator.specs.Quantifiers.{Answered}
use Rattle.evaluator.proofs.short_trace.ShortTrace.passing.Given as goal

-- of the instants so far the set tells what the test answered
abbrev pub invariant-loop-k : goal.invariant-loop-k
invariant-loop-k g l = Answered l.passing l.k (λ i. goal.F-post g l.test (get_or l.self.instants.now (i - 1) 0) i)
