-- What is left to show of `plain`.
use Rattle.std.proofs.Common.{◌+◌, ◌∷◌, codes, refl}
use Rattle.std.proofs.lemmas.Result.{MatchResult-weaker}
use Rattle.text.specs.declared.term.Leaf.{Leaf}
use Rattle.text.specs.declared.term.Leaf.TheVariants.{True, False, End}
use Rattle.text.specs.declared.refusal.Misreading.{Misreading}
use Rattle.text.specs.Machine.{form, after_s}
use Rattle.text.proofs.Steps.{at_byte, word_arm, here_none, here_some, found_word, found_more, stops_more, form_none, off_byte}
use Rattle.text.proofs.cursor.Cursor.plain.Goals as goal
use Rattle.text.proofs.cursor.Cursor.plain.Goals.{in_default-via-in-Some+in_default, in_default-via-in_default}

pub returns-in-Some-eq116 : goal.returns-in-Some-eq116
returns-in-Some-eq116 c =
    let text = c.args.self.now in
    let arm = c.in-Some-eq116 in
    record { text = c.word.ensures.text; read = word_arm text.text.now _ (λ j k. form (c.args.left + j) ∷ k) (λ j k. k) text.at 116 (codes "rue") _ True _ _ c.and.ensures (at_byte text.text.now text.at arm.field-0 116 arm.ensures arm.field-0-test) (λ j k. refl) (found_word text.text.now _ (λ j k. form (c.args.left + j) ∷ k) text.at True _ tt) c.word.ensures.read }

pub returns-in-Some-eq102 : goal.returns-in-Some-eq102
returns-in-Some-eq102 c =
    let text = c.args.self.now in
    let arm = c.in-Some-eq102 in
    record { text = c.word-in-Some-eq102.ensures.text; read = word_arm text.text.now _ (λ j k. form (c.args.left + j) ∷ k) (λ j k. k) text.at 102 (codes "alse") _ False _ _ c.and-in-Some-eq102.ensures (at_byte text.text.now text.at arm.field-0 102 arm.ensures arm.field-0-test) (λ j k. refl) (found_word text.text.now _ (λ j k. form (c.args.left + j) ∷ k) text.at False _ tt) c.word-in-Some-eq102.ensures.read }

pub returns-in-Some-eq101 : goal.returns-in-Some-eq101
returns-in-Some-eq101 c =
    let text = c.args.self.now in
    let arm = c.in-Some-eq101 in
    record { text = c.word-in-Some-eq101.ensures.text; read = word_arm text.text.now _ (λ j k. form (c.args.left + j) ∷ k) (λ j k. k) text.at 101 (codes "nd") _ End _ _ c.and-in-Some-eq101.ensures (at_byte text.text.now text.at arm.field-0 101 arm.ensures arm.field-0-test) (λ j k. refl) (found_word text.text.now _ (λ j k. form (c.args.left + j) ∷ k) text.at End _ tt) c.word-in-Some-eq101.ensures.read }

pub returns-in-Some-eq115 : goal.returns-in-Some-eq115
returns-in-Some-eq115 c =
    let text = c.args.self.now in
    let arm = c.in-Some-eq115 in
    let byte = at_byte text.text.now text.at arm.field-0 115 arm.ensures arm.field-0-test in
    record {
      text = c.name.ensures.text;
      read = MatchResult-weaker {X = Leaf} {Y = Misreading} c.name.result c.name.ensures.read
          (λ l. found_more text.text.now (λ j k. form (c.args.left + j) ∷ k) (λ j k. after_s ∷ k) text.at 115 l _ byte (λ j k. refl))
          (λ e. stops_more text.text.now (λ j k. form (c.args.left + j) ∷ k) (λ j k. after_s ∷ k) text.at 115 e byte (λ j k. refl));
    }

pub returns-in_default : goal.returns-in_default
returns-in_default c =
    let text = c.args.self.now in
    elim c.in_default.branch [
      | in_default-via-in-Some+in_default w ↦ let x = w.in_default in record { text = refl; read = here_some text.text.now (λ j k. form (c.args.left + j) ∷ k) text.at _ x.ensures (λ j k. form_none (c.args.left + j) k _ (off_byte text.text.now 40 text.at _ c.requires x.ensures) x.field-0-test.0.0.0.1 x.field-0-test.0.0.1 x.field-0-test.0.1 x.field-0-test.1) }
      | in_default-via-in_default w ↦ record { text = refl; read = here_none text.text.now (λ j k. form (c.args.left + j) ∷ k) text.at text.within (rw w.in_default.is at c.peek.ensures) (λ j k. refl) }
    ]
