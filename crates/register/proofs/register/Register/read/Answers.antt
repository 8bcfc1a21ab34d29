-- What `read` needs and the search leaves open.
use Rattle.std.proofs.Common.{◌≡◌, ◌<◌, length, vec_items, refl, ap, ◌∙◌, arith}
use Rattle.std.proofs.lemmas.List.{get_or_read}
use Rattle.std.proofs.lemmas.Bool.{le-leb, lt-leb}
use Rattle.register.specs.Calls.{figures}
use Rattle.register.specs.Sums.{no_figures, telling}
use Rattle.register.proofs.Laws.{refuses, accepts, when_yes, when_no}
use Rattle.register.proofs.Tabled.{tabled}
use Rattle.register.proofs.register.Register.read.Goals as goal

pub returns-then-rule-rules-clause-called : goal.returns-then-rule-rules-clause-called
returns-then-rule-rules-clause-called c =
    let rules = vec_items c.args.self.now.totals.sheet.rules in
    refuses _ _ _ _ (when_yes _ _ _ (le-leb (length rules) c.args.rule (omega (arith, ap length c.rules.ensures.value)))) refl

pub returns-then-rule-rules-clause-examples : goal.returns-then-rule-rules-clause-examples
returns-then-rule-rules-clause-examples c =
    let rules = vec_items c.args.self.now.totals.sheet.rules in
    tabled

pub returns-clause-called : goal.returns-clause-called
returns-clause-called c =
    let t = c.args.self.now.totals in
    let rules : length c.rules.result.now ≡ length (vec_items t.sheet.rules) = ap length c.rules.ensures.value in
    let lt : c.args.rule < length (vec_items t.figures) = omega (arith, t.level, t.figures.ok.0, t.sheet.rules.ok.0) in
    accepts _ _ _ _ (when_no _ _ _ (lt-leb (length (vec_items t.sheet.rules)) c.args.rule (omega arith))) refl
    (ap (λ x. figures x) c.telling.ensures
    ∙ ap (λ f. figures (telling f t.traces t.instants))
    (get_or_read (vec_items t.figures) c.args.rule _ lt c.index-figures.ensures no_figures))

pub returns-clause-examples : goal.returns-clause-examples
returns-clause-examples c =
    let t = c.args.self.now.totals in
    let rules : length c.rules.result.now ≡ length (vec_items t.sheet.rules) = ap length c.rules.ensures.value in
    let lt : c.args.rule < length (vec_items t.figures) = omega (arith, t.level, t.figures.ok.0, t.sheet.rules.ok.0) in
    tabled
