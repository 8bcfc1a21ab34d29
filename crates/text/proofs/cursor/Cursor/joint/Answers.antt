-- What is left to show of `joint`.
use Rattle.std.proofs.Common.{◌∷◌, codes, refl}
use Rattle.text.specs.declared.term.Binary.TheVariants.{And, Or, Until, Since}
use Rattle.text.specs.Machine.{joint}
use Rattle.text.proofs.Steps.{at_byte, word_arm, here_none, here_some, joint_none}
use Rattle.text.proofs.cursor.Cursor.joint.Goals as goal
use Rattle.text.proofs.cursor.Cursor.joint.Goals.{in_default-via-in-Some+in_default, in_default-via-in_default}

pub returns-in-Some-eq97 : goal.returns-in-Some-eq97
returns-in-Some-eq97 c =
    let text = c.args.self.now in
    let arm = c.in-Some-eq97 in
    record { text = c.word.ensures.text; read = word_arm text.text.now _ (λ j k. joint ∷ k) (λ j k. k) text.at 97 (codes "nd ") _ And _ _ c.and.ensures (at_byte text.text.now text.at arm.field-0 97 arm.ensures arm.field-0-test) (λ j k. refl) (λ h. h) c.word.ensures.read }

pub returns-in-Some-eq111 : goal.returns-in-Some-eq111
returns-in-Some-eq111 c =
    let text = c.args.self.now in
    let arm = c.in-Some-eq111 in
    record { text = c.word-in-Some-eq111.ensures.text; read = word_arm text.text.now _ (λ j k. joint ∷ k) (λ j k. k) text.at 111 (codes "r ") _ Or _ _ c.and-in-Some-eq111.ensures (at_byte text.text.now text.at arm.field-0 111 arm.ensures arm.field-0-test) (λ j k. refl) (λ h. h) c.word-in-Some-eq111.ensures.read }

pub returns-in-Some-eq117 : goal.returns-in-Some-eq117
returns-in-Some-eq117 c =
    let text = c.args.self.now in
    let arm = c.in-Some-eq117 in
    record { text = c.word-in-Some-eq117.ensures.text; read = word_arm text.text.now _ (λ j k. joint ∷ k) (λ j k. k) text.at 117 (codes "ntil ") _ Until _ _ c.and-in-Some-eq117.ensures (at_byte text.text.now text.at arm.field-0 117 arm.ensures arm.field-0-test) (λ j k. refl) (λ h. h) c.word-in-Some-eq117.ensures.read }

pub returns-in-Some-eq115 : goal.returns-in-Some-eq115
returns-in-Some-eq115 c =
    let text = c.args.self.now in
    let arm = c.in-Some-eq115 in
    record { text = c.word-in-Some-eq115.ensures.text; read = word_arm text.text.now _ (λ j k. joint ∷ k) (λ j k. k) text.at 115 (codes "ince ") _ Since _ _ c.and-in-Some-eq115.ensures (at_byte text.text.now text.at arm.field-0 115 arm.ensures arm.field-0-test) (λ j k. refl) (λ h. h) c.word-in-Some-eq115.ensures.read }

pub returns-in_default : goal.returns-in_default
returns-in_default c =
    let text = c.args.self.now in
    elim c.in_default.branch [
      | in_default-via-in-Some+in_default w ↦ let x = w.in_default in record { text = refl; read = here_some text.text.now (λ j k. joint ∷ k) text.at _ x.ensures (λ j k. joint_none k _ x.field-0-test.0.0.0.1 x.field-0-test.0.0.1 x.field-0-test.0.1 x.field-0-test.1) }
      | in_default-via-in_default w ↦ record { text = refl; read = here_none text.text.now (λ j k. joint ∷ k) text.at text.within (rw w.in_default.is at c.peek.ensures) (λ j k. refl) }
    ]
