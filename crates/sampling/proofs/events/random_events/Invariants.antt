-- What the loop of `random_events` keeps.
use Rattle.std.proofs.Common.{◌<◌, vec_items}
use Rattle.sampling.specs.Lists.{Each}
use Rattle.sampling.proofs.events.random_events.Given as goal

-- as many elements as turns, each as it should be
abbrev pub invariant-loop-k : goal.invariant-loop-k
invariant-loop-k l = Each (λ x. x < 16) l._k (vec_items l.events)
