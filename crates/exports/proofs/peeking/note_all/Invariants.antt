-- What the loop of `note_all` keeps: the codes so far are noted, and the rest decides what is refused.
use Rattle.register.specs.State.{state}
use Rattle.exports.proofs.Notes.{Sofar}
use Rattle.exports.proofs.peeking.note_all.Given as goal

abbrev pub invariant-loop-code : goal.invariant-loop-code
invariant-loop-code l = Sofar (state l.initial.register) (state l.register) l.slip.mark l.codes l.code-index
