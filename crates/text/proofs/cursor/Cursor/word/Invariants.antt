-- What the loop of `word` keeps.
use Rattle.std.proofs.Common.{take}
use Rattle.text.specs.Cursors.{Moves}
use Rattle.text.specs.Machine.{Holds}
use Rattle.text.proofs.cursor.Cursor.word.Given as goal

-- the bytes of the word so far were read
abbrev pub invariant-loop-b : goal.invariant-loop-b
invariant-loop-b l = Moves l.initial.self l.self (λ s p q. Holds s p (take l.b-index l.word) q)
