-- The trace stays open, and the slip is its slip.
use Rattle.register.specs.State.{OpenFor}
use Rattle.register_tests.proofs.holding.note_all.Given as goal

abbrev pub invariant-loop-k : goal.invariant-loop-k
invariant-loop-k l = OpenFor l.register l.slip.mark
