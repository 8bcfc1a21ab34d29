-- What is left to show of `read_rule`.
use Rattle.std.proofs.Common.{refl, ◌∙◌}
use Rattle.text.specs.Drafts.{drafted}
use Rattle.text.proofs.Steps.{passed_on}
use Rattle.text.proofs.Verdict.{first_refused, arrow_refused, second_refused, rest_refused, all_read}
use Rattle.text.proofs.reader.read_rule.Goals as goal

pub returns-in_err-activator : goal.returns-in_err-activator
returns-in_err-activator c =
    let s = c.args.text.now in
    let e0 = c.new-cursor.ensures.text in
    let z = c.new-cursor.ensures.at in
    passed_on _ _ _ _ c.from_residual.ensures.1 (first_refused s c.in_err-activator.field-0.0 (rw (e0, z) at c.in_err-activator.ensures.read))

pub returns-in_err-word : goal.returns-in_err-word
returns-in_err-word c =
    let s = c.args.text.now in
    let e0 = c.new-cursor.ensures.text in
    let z = c.new-cursor.ensures.at in
    let a = rw (e0, z) at c.in_ok-activator.ensures.read in
    let e1 = c.formula.ensures.text ∙ e0 in
    passed_on _ _ _ _ c.from_residual-in_err-word.ensures.1 (arrow_refused s c.formula.new.cursor.at c.in_ok-activator.activator (drafted c.args.out.now) (drafted c.formula.new.out) a c.in_err-word.field-0.0 (rw e1 at c.in_err-word.ensures.read))

pub returns-in_err-target : goal.returns-in_err-target
returns-in_err-target c =
    let s = c.args.text.now in
    let e0 = c.new-cursor.ensures.text in
    let z = c.new-cursor.ensures.at in
    let a = rw (e0, z) at c.in_ok-activator.ensures.read in
    let e1 = c.formula.ensures.text ∙ e0 in
    let ar = rw e1 at c.in_ok-word.ensures.read in
    let e2 = c.word.ensures.text ∙ e1 in
    passed_on _ _ _ _ c.from_residual-in_err-target.ensures.1 (second_refused s c.formula.new.cursor.at c.in_ok-activator.activator (drafted c.args.out.now) (drafted c.formula.new.out) a c.word.new.self.at ar c.in_err-target.field-0.0 (rw e2 at c.in_err-target.ensures.read))

pub returns-then-cursor-text : goal.returns-then-cursor-text
returns-then-cursor-text c =
    let s = c.args.text.now in
    let e0 = c.new-cursor.ensures.text in
    let z = c.new-cursor.ensures.at in
    let a = rw (e0, z) at c.in_ok-activator.ensures.read in
    let e1 = c.formula.ensures.text ∙ e0 in
    let ar = rw e1 at c.in_ok-word.ensures.read in
    let e2 = c.word.ensures.text ∙ e1 in
    let b = rw e2 at c.in_ok-target.ensures.read in
    rest_refused s c.formula.new.cursor.at c.in_ok-activator.activator (drafted c.args.out.now) (drafted c.formula.new.out) a c.word.new.self.at ar c.formula-2.new.cursor.at c.in_ok-target.target (drafted c.formula-2.new.out) b c.if-cursor-text.true

pub returns : goal.returns
returns c =
    let s = c.args.text.now in
    let e0 = c.new-cursor.ensures.text in
    let z = c.new-cursor.ensures.at in
    let a = rw (e0, z) at c.in_ok-activator.ensures.read in
    let e1 = c.formula.ensures.text ∙ e0 in
    let ar = rw e1 at c.in_ok-word.ensures.read in
    let e2 = c.word.ensures.text ∙ e1 in
    let b = rw e2 at c.in_ok-target.ensures.read in
    all_read s c.formula.new.cursor.at c.in_ok-activator.activator (drafted c.args.out.now) (drafted c.formula.new.out) a c.word.new.self.at ar c.formula-2.new.cursor.at c.in_ok-target.target (drafted c.formula-2.new.out) b _ refl refl c.if-cursor-text.false
