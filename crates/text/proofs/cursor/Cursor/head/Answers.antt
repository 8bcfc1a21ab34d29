-- What is left to show of `head`.
use Rattle.std.proofs.Common.{◌+◌, ◌∷◌, Some, codes, sym, refl, subst}
use Rattle.text.specs.declared.term.Unary.TheVariants.{Yest}
use Rattle.text.specs.Machine.{inner, after_n, single, Off}
use Rattle.text.proofs.Steps.{at_byte, word_arm, passed_on, stops_more, spells_more}
use Rattle.text.proofs.cursor.Cursor.head.Goals as goal

pub returns-in_default : goal.returns-in_default
returns-in_default c =
    let x = c.in_default in
    record { text = refl; read = (refl, (subst (Off 110) (sym x.ensures.1) x.field-0-test.0.1, subst (Off 121) (sym x.ensures.1) x.field-0-test.1)) }

pub returns-in_err-u-in-Some-eq110 : goal.returns-in_err-u-in-Some-eq110
returns-in_err-u-in-Some-eq110 c =
    let text = c.args.self.now in
    let arm = c.in-Some-eq110 in
    let byte = at_byte text.text.now text.at arm.field-0 110 arm.ensures arm.field-0-test in
    record { text = c.after_n.ensures.text; read = passed_on _ _ _ _ c.from_residual.ensures.1 (stops_more text.text.now (λ j k. inner (c.args.left + j) ∷ k) (λ j k. after_n (c.args.left + j) ∷ k) text.at 110 _ byte (λ j k. refl) c.in_err-u-in-Some-eq110.ensures.read) }

pub returns-in_ok-u-in-Some-eq110 : goal.returns-in_ok-u-in-Some-eq110
returns-in_ok-u-in-Some-eq110 c =
    let text = c.args.self.now in
    let arm = c.in-Some-eq110 in
    let byte = at_byte text.text.now text.at arm.field-0 110 arm.ensures arm.field-0-test in
    record { text = c.after_n.ensures.text; read = spells_more text.text.now (λ j k. inner (c.args.left + j) ∷ k) (λ j k. after_n (c.args.left + j) ∷ k) (λ j k. single (c.args.left + j) k) text.at 110 _ _ byte (λ j k. refl) c.in_ok-u-in-Some-eq110.ensures.read }

pub returns-in-Some-eq121 : goal.returns-in-Some-eq121
returns-in-Some-eq121 c =
    let text = c.args.self.now in
    let arm = c.in-Some-eq121 in
    record { text = c.word.ensures.text; read = word_arm text.text.now _ (λ j k. inner (c.args.left + j) ∷ k) (λ j k. single (c.args.left + j) k) text.at 121 (codes "est ") _ (Some Yest) _ _ c.and.ensures (at_byte text.text.now text.at arm.field-0 121 arm.ensures arm.field-0-test) (λ j k. refl) (λ h. h) c.word.ensures.read }
