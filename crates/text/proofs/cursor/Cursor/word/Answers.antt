-- What is left to show of `word`.
use Rattle.std.proofs.Common.{ℕ, List, get_or, drop, subst}
use Rattle.text.specs.Machine.{Off}
use Rattle.text.proofs.Steps.{word_miss}
use Rattle.text.proofs.cursor.Cursor.word.Goals as goal

pub returns-then-not-comes : goal.returns-then-not-comes
returns-then-not-comes c =
    let w = c.args.word.now in
    let q = c.loop-b.self.at in
    let i = c.loop-b.b-index in
    let off = subst (λ (s : List ℕ). Off (get_or w i 0) (drop q s)) c.loop-b.invariant.text c.if-not-comes.ensures in
    record { text = c.loop-b.invariant.text; read = word_miss c.args.self.now.text.now w c.args.self.now.at q i c.loop-b.invariant.read c.loop-b-test.true off }
