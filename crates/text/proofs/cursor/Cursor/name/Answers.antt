-- What is left to show of `name`.
use Rattle.std.proofs.Common.{◌≡◌, ◌+◌, ◌-◌, ◌∷◌, drop, codes, sym, refl, ap, ◌∙◌, arith}
use Rattle.text.specs.declared.term.Leaf.TheVariants.{Start}
use Rattle.text.specs.Machine.{after_s, digit}
use Rattle.text.proofs.Numbers.{digit_range}
use Rattle.text.proofs.Steps.{at_byte, word_arm, here_none, here_some, one_step, joined, s_none, s_digit}
use Rattle.text.proofs.cursor.Cursor.name.Goals as goal
use Rattle.text.proofs.cursor.Cursor.name.Goals.{in_default-via-in-Some+else-is_ascii_digit, in_default-via-in_default}

pub returns-in-Some-eq116 : goal.returns-in-Some-eq116
returns-in-Some-eq116 c =
    let text = c.args.self.now in
    let arm = c.in-Some-eq116 in
    record { text = c.word.ensures.text; read = word_arm text.text.now _ (λ j k. after_s ∷ k) (λ j k. k) text.at 116 (codes "art") _ Start _ _ c.and.ensures (at_byte text.text.now text.at arm.field-0 116 (rw arm.is at c.peek.ensures) arm.field-0-test) (λ j k. refl) (λ h. record { inside = h.inside; small = tt; text = ap (λ x. 115 ∷ x) h.text; goes = h.goes }) c.word.ensures.read }

pub returns-in-Some-eq48 : goal.returns-in-Some-eq48
returns-in-Some-eq48 c =
    let text = c.args.self.now in
    let arm = c.in-Some-eq48 in
    let h = at_byte text.text.now text.at arm.field-0 48 (rw arm.is at c.peek.ensures) arm.field-0-test in
    record { text = refl; read = record { inside = omega (arith, h.0); small = omega arith; text = ap (λ x. 115 ∷ x) h.1; goes = one_step text.text.now (λ j k. after_s ∷ k) (λ j k. k) text.at 48 h (λ j k. refl) } }

pub returns-in-Some : goal.returns-in-Some
returns-in-Some c =
    let text = c.args.self.now in
    let b = c.in-Some.b in
    let h = c.in-Some.ensures in
    let dig = sym c.if-is_ascii_digit.ensures.value in
    let range = digit_range b dig in
    let back : b ≡ 48 + (b - 48) = omega (arith, range.0) in
    let f = c.number.ensures.read in
    record {
      text = c.number.ensures.text;
      read = record {
        inside = f.inside;
        small = f.small;
        text = ap (λ x. 115 ∷ x) (h.1 ∙ ap (λ x. x ∷ drop (text.at + 1) text.text.now) back) ∙ f.text;
        goes = joined text.text.now (λ j k. after_s ∷ k) (λ j k. digit ∷ k) (λ j k. k) text.at (text.at + 1) _ (one_step text.text.now (λ j k. after_s ∷ k) (λ j k. digit ∷ k) text.at b h (λ j k. s_digit k b c.in-Some.b-test.0.1 c.in-Some.b-test.1 dig)) f.goes;
      };
    }

pub returns-in_default : goal.returns-in_default
returns-in_default c =
    let text = c.args.self.now in
    elim c.in_default.branch [
      | in_default-via-in-Some+else-is_ascii_digit w ↦ let x = w.in-Some in record { text = refl; read = here_some text.text.now (λ j k. after_s ∷ k) text.at x.b (rw x.is at c.peek.ensures) (λ j k. s_none k x.b x.b-test.0.1 x.b-test.1 (sym w.if-is_ascii_digit.ensures.value)) }
      | in_default-via-in_default w ↦ record { text = refl; read = here_none text.text.now (λ j k. after_s ∷ k) text.at text.within (rw w.in_default.is at c.peek.ensures) (λ j k. refl) }
    ]
