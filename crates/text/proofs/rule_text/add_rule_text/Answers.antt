-- What is left to show of `add_rule_text`.
use Rattle.std.proofs.Common.{◌≡◌, ◌<◌, List, length, take, Ok, vec_items, vec_len, sym, ap, ◌∙◌, subst, arith}
use Rattle.std.proofs.lemmas.List.{take_at}
use Rattle.sheet.specs.Sheets.{rule_answer, grown}
use Rattle.sheet.specs.declared.row.Rule.{Rule}
use Rattle.sheet.specs.declared.refusal.Refusal.TheVariants.{SheetFull}
use Rattle.text.specs.declared.refusal.TextRefusal.TheVariants.{Row}
use Rattle.text.specs.Drafts.{drafted}
use Rattle.text.specs.Outcome.{Read}
use Rattle.text.specs.Refusals.{code}
use Rattle.text.proofs.Added.{row_refused, rules_full, draft_rows, accepted_read}
use Rattle.text.proofs.rule_text.add_rule_text.Goals as goal
use Rattle.text.proofs.rule_text.add_rule_text.Goals.{After-add_rule, at-returns-clause-outcome, at-returns-in_err-add_rule-clause-outcome}

pub returns-in-Some-clause-outcome : goal.returns-in-Some-clause-outcome
returns-in-Some-clause-outcome c =
    let sheet = c.args.sheet.now in
    let read = rw c.of-draft.ensures at c.in_ok-rule.ensures in
    (Row c.in-Some.refusal, ap code c.into.ensures, row_refused c.args.text.now (vec_items sheet.rows) (vec_items sheet.rules) (drafted c.read_rule.new.out) c.in_ok-rule.rule read c.in-Some.refusal c.in-Some.is)

pub returns-then-rules-ge-MAX_RULES-clause-outcome : goal.returns-then-rules-ge-MAX_RULES-clause-outcome
returns-then-rules-ge-MAX_RULES-clause-outcome c =
    let sheet = c.args.sheet.now in
    let read = rw c.of-draft.ensures at c.in_ok-rule.ensures in
    let count = ap length c.rules.ensures.value in
    (Row SheetFull, ap code c.into-then-rules-ge-MAX_RULES.ensures, rules_full c.args.text.now (vec_items sheet.rows) (vec_items sheet.rules) (drafted c.read_rule.new.out) c.in_ok-rule.rule read c.in_default.is (omega arith))

pub bring_onto-requires : goal.bring_onto-requires
bring_onto-requires c =
    let sheet = c.args.sheet.now in
    let read = rw c.of-draft.ensures at c.in_ok-rule.ensures in
    let rows = draft_rows c.args.text.now (vec_items sheet.rows) (vec_items sheet.rules) (drafted c.read_rule.new.out) c.in_ok-rule.rule read c.in_default.is in
    ap (take (vec_len sheet.rows)) rows ∙ take_at (vec_items sheet.rows) _ (vec_len sheet.rows) (sym sheet.rows.ok.0)

-- the sheet after the rule was added to the rows of the draft
after : (c : After-add_rule) → (c.add_rule.result ≡ Ok (length (vec_items c.args.sheet.now.rules))) × Read c.args.text.now (vec_items c.args.sheet.now.rows) (vec_items c.args.sheet.now.rules) (vec_items c.add_rule.new.self.rows) (vec_items c.add_rule.new.self.rules) c.add_rule.result
after c =
    let sheet = c.args.sheet.now in
    let rules = vec_items sheet.rules in
    let r = c.in_ok-rule.rule in
    let brought = c.bring_onto.new.sheet in
    let n = vec_len brought.rows in
    let read = rw c.of-draft.ensures at c.in_ok-rule.ensures in
    let count = ap length c.rules.ensures.value in
    let few : length rules < 8 = omega (arith, c.if-rules-ge-MAX_RULES.false) in
    let long : n ≡ length (drafted c.read_rule.new.out).rows = brought.rows.ok.0 ∙ ap length c.bring_onto.ensures.rows in
    accepted_read c.args.text.now (vec_items sheet.rows) rules (drafted c.read_rule.new.out) r read c.in_default.is n c.add_rule.result (vec_items c.add_rule.new.self.rows) (vec_items c.add_rule.new.self.rules) few long
    (c.add_rule.ensures.answer ∙ ap (λ (rs : List Rule). rule_answer n rs r) c.bring_onto.ensures.rules)
    (c.add_rule.ensures.rows ∙ c.bring_onto.ensures.rows)
    (c.add_rule.ensures.rules ∙ ap (λ (rs : List Rule). grown c.add_rule.result rs r) c.bring_onto.ensures.rules)

pub returns-clause-outcome : goal.returns-clause-outcome
returns-clause-outcome c =
    let sheet = c.args.sheet.now in
    let h = after (at-returns-clause-outcome c).After-add_rule in
    subst (Read c.args.text.now (vec_items sheet.rows) (vec_items sheet.rules) (vec_items c.add_rule.new.self.rows) (vec_items c.add_rule.new.self.rules)) c.in_ok-add_rule.was h.1

pub returns-in_err-add_rule-clause-outcome : goal.returns-in_err-add_rule-clause-outcome
returns-in_err-add_rule-clause-outcome c =
    let ok = (after (at-returns-in_err-add_rule-clause-outcome c).After-add_rule).0 in
    let no = c.in_err-add_rule.was in
    absurd cc
