use Rattle.register.specs.State.{OpenFor}
use Rattle.installer.proofs.live.note_all.Given as goal

abbrev pub invariant-loop-code : goal.invariant-loop-code
invariant-loop-code l = OpenFor l.register l.slip.mark
