-- What `peek` needs and the search leaves open.
use Rattle.std.proofs.Common.{◌≡◌, ◌<◌, true, false, ◌||◌, eqb, ltb, length, get_or, vec_items, vec_len, sym, refl, ap, ◌∙◌, subst, ap₂, arith}
use Rattle.std.proofs.lemmas.Bool.{le-leb, lt-leb}
use Rattle.std.proofs.lemmas.Bool.Decides.{nat_tests}
use Rattle.label.specs.Labels.{label_at}
use Rattle.label.specs.declared.verdict.Verdict.TheVariants.{Open}
use Rattle.sheet.specs.declared.row.Rule.{Rule}
use Rattle.register.specs.Calls.{noted, verdicts}
use Rattle.register.specs.Contents.{coded_trace}
use Rattle.register.specs.State.{state}
use Rattle.register.proofs.Adds.{ruled_at, rule_fits}
use Rattle.register.proofs.Laws.{refuses, accepts, when_yes, when_no}
use Rattle.register.proofs.Open.{right_live, noted_len, noted_live}
use Rattle.register.proofs.register.Register.peek.Goals as goal

pub returns-then-is_wrong : goal.returns-then-is_wrong
returns-then-is_wrong c = refuses _ _ _ _ (when_yes _ _ _ (sym c.is_wrong.ensures ∙ c.if-is_wrong.true)) refl

pub returns-then-rule-rules : goal.returns-then-rule-rules
returns-then-rule-rules c =
    let rules = vec_items c.args.self.now.totals.sheet.rules in
    refuses _ _ _ _
    (when_no _ _ _ (sym c.is_wrong.ensures ∙ c.if-is_wrong.false)
    ∙ when_yes _ _ _ (le-leb (length rules) c.args.rule (omega (arith, ap length c.rules-rules.ensures.value)))) refl

pub returns-then-instant-eq0 : goal.returns-then-instant-eq0
returns-then-instant-eq0 c =
    let r = c.args.self.now in
    let rules = vec_items r.totals.sheet.rules in
    let right = sym c.is_wrong.ensures ∙ c.if-is_wrong.false in
    let len : length (noted (state r).opened) ≡ vec_len r.codes = noted_len r (right_live r _ right) in
    let n = c.len-n.ensures in
    let ways = c.then-instant-eq0.either in
    let out : (eqb c.args.instant 0 || ltb (length (noted (state r).opened)) c.args.instant) ≡ true = grind (arith, nat_tests) in
    refuses _ _ _ _
    (when_no _ _ _ right
    ∙ when_no _ _ _ (lt-leb (length rules) c.args.rule (omega (arith, ap length c.rules-rules.ensures.value)))
    ∙ when_yes _ _ _ out) refl

pub standing-requires-clause-activator : goal.standing-requires-clause-activator
standing-requires-clause-activator c =
    let r = c.args.self.now in
    let s = r.totals.sheet in
    let rules = c.rules-rules.ensures.value in
    let lt : c.args.rule < length (vec_items s.rules) = omega (arith, ap length rules) in
    let P : Rule → Type 0 = λ x. (x.activator < vec_len s.rows) × (x.target < vec_len s.rows) in
    let fits = subst P (sym (ap (λ xs. get_or xs c.args.rule (record { activator = 0; target = 0 })) rules))
    (rule_fits (vec_len s.rows) _ (ruled_at (vec_len s.rows) (vec_items s.rules) c.args.rule (record { activator = 0; target = 0 }) s.pairs lt)) in
    let codes = c.as_slice-codes.ensures.value in
    fits.0

pub standing-requires-clause-target : goal.standing-requires-clause-target
standing-requires-clause-target c =
    let r = c.args.self.now in
    let s = r.totals.sheet in
    let rules = c.rules-rules.ensures.value in
    let lt : c.args.rule < length (vec_items s.rules) = omega (arith, ap length rules) in
    let P : Rule → Type 0 = λ x. (x.activator < vec_len s.rows) × (x.target < vec_len s.rows) in
    let fits = subst P (sym (ap (λ xs. get_or xs c.args.rule (record { activator = 0; target = 0 })) rules))
    (rule_fits (vec_len s.rows) _ (ruled_at (vec_len s.rows) (vec_items s.rules) c.args.rule (record { activator = 0; target = 0 }) s.pairs lt)) in
    let codes = c.as_slice-codes.ensures.value in
    fits.1

pub returns : goal.returns
returns c =
    let r = c.args.self.now in
    let s = r.totals.sheet in
    let rules = vec_items r.totals.sheet.rules in
    let right = sym c.is_wrong.ensures ∙ c.if-is_wrong.false in
    let live = right_live r _ right in
    let len : length (noted (state r).opened) ≡ vec_len r.codes = noted_len r live in
    let n = c.len-n.ensures in
    let low = c.if-instant-eq0.false in
    let high = c.if-instant-n.false in
    let out : (eqb c.args.instant 0 || ltb (length (noted (state r).opened)) c.args.instant) ≡ false = grind (arith, nat_tests) in
    let codes : c.as_slice-codes.result.now ≡ noted (state r).opened = c.as_slice-codes.ensures.value ∙ sym (noted_live r live) in
    let rule : get_or c.rules-rules.result.now c.args.rule (record { activator = 0; target = 0 }) ≡ get_or (vec_items s.rules) c.args.rule (record { activator = 0; target = 0 })
    = ap (λ xs. get_or xs c.args.rule (record { activator = 0; target = 0 })) c.rules-rules.ensures.value in
    accepts _ _ _ _
    (when_no _ _ _ right
    ∙ when_no _ _ _ (lt-leb (length rules) c.args.rule (omega (arith, ap length c.rules-rules.ensures.value)))
    ∙ when_no _ _ _ out)
    refl
    (ap₂ verdicts
    (c.standing.ensures.activator ∙ (λ i. label_at Open (coded_trace (codes i)) (vec_items s.rows) c.args.instant (rule i).activator))
    (c.standing.ensures.target ∙ (λ i. label_at Open (coded_trace (codes i)) (vec_items s.rows) c.args.instant (rule i).target)))
