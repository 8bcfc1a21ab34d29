-- What is left to show of `after_n`.
use Rattle.std.proofs.Common.{◌+◌, ◌∷◌, codes, refl}
use Rattle.text.specs.declared.term.Unary.TheVariants.{Not, Next}
use Rattle.text.specs.Machine.{after_n, single}
use Rattle.text.proofs.Steps.{at_byte, word_arm, here_none, here_some, n_none, n_front}
use Rattle.text.proofs.cursor.Cursor.after_n.Goals as goal
use Rattle.text.proofs.cursor.Cursor.after_n.Goals.{in_default-via-in-Some+in_default, in_default-via-in_default}

pub returns-in-Some-eq111 : goal.returns-in-Some-eq111
returns-in-Some-eq111 c =
    let text = c.args.self.now in
    let arm = c.in-Some-eq111 in
    record { text = c.word.ensures.text; read = word_arm text.text.now _ (λ j k. after_n (c.args.left + j) ∷ k) (λ j k. single (c.args.left + j) k) text.at 111 (codes "t ") _ Not _ _ c.and.ensures (at_byte text.text.now text.at arm.field-0 111 arm.ensures arm.field-0-test) (λ j k. refl) (n_front _ _ _ _ _ _) c.word.ensures.read }

pub returns-in-Some-eq101 : goal.returns-in-Some-eq101
returns-in-Some-eq101 c =
    let text = c.args.self.now in
    let arm = c.in-Some-eq101 in
    record { text = c.word-in-Some-eq101.ensures.text; read = word_arm text.text.now _ (λ j k. after_n (c.args.left + j) ∷ k) (λ j k. single (c.args.left + j) k) text.at 101 (codes "xt ") _ Next _ _ c.and-in-Some-eq101.ensures (at_byte text.text.now text.at arm.field-0 101 arm.ensures arm.field-0-test) (λ j k. refl) (n_front _ _ _ _ _ _) c.word-in-Some-eq101.ensures.read }

pub returns-in_default : goal.returns-in_default
returns-in_default c =
    let text = c.args.self.now in
    elim c.in_default.branch [
      | in_default-via-in-Some+in_default w ↦ let x = w.in_default in record { text = refl; read = here_some text.text.now (λ j k. after_n (c.args.left + j) ∷ k) text.at _ x.ensures (λ j k. n_none (c.args.left + j) k _ x.field-0-test.0.1 x.field-0-test.1) }
      | in_default-via-in_default w ↦ record { text = refl; read = here_none text.text.now (λ j k. after_n (c.args.left + j) ∷ k) text.at text.within (rw w.in_default.is at c.peek.ensures) (λ j k. refl) }
    ]
