-- What the loop of `note_many` keeps.
use Rattle.register.specs.State.{OpenFor}
use Rattle.comparing.proofs.edge_registers.note_many.Given as goal

-- the trace of the slip stays open
abbrev pub invariant-loop-k : goal.invariant-loop-k
invariant-loop-k l = OpenFor l.register l.slip.mark
