-- What the loop of `note_all` keeps.
use Rattle.register.specs.State.{OpenFor}
use Rattle.comparing.proofs.live.note_all.Given as goal

-- the trace of the slip stays open
abbrev pub invariant-loop-code : goal.invariant-loop-code
invariant-loop-code l = OpenFor l.register l.slip.mark
