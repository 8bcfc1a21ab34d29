-- What `has_after` needs and the search leaves open.
use Rattle.std.proofs.Common.{◌≡◌, ◌+◌, ◌⊎◌, sym, inl, inr, ⊎_elim, rules, tests, arith}
use Rattle.std.proofs.lemmas.Bool.{cases_eq}
use Rattle.evaluator.specs.Quantifiers.{In}
use Rattle.evaluator.proofs.Ranges.{all_decides, inclusive_up}
use Rattle.evaluator.proofs.instants.Instants.has_after.Goals as goal

pub returns : goal.returns
returns c =
    let l = c.args in
    let d = all_decides _ _ (search rules) (λ k. (k ≡ l.after) ⊎ In l.self k) (λ k e. search (rules, tests)) (λ k e. search (rules, tests)) _ l.after (l.through + 1) (inclusive_up _ l.after l.through c.new.ensures.start c.new.ensures.end c.new.ensures.exhausted) c.all.result c.all.ensures.runs in (
      (λ e k low high. ⊎_elim (λ (same : k ≡ l.after). absurd (omega arith)) (λ h. h) (d.0 e k (omega arith) (omega arith))),
      λ all. d.1 (λ k low high. ⊎_elim (λ (same : l.after ≡ k). inl (sym same)) (λ other. inr (all k (omega arith) (omega arith))) (cases_eq l.after k)),
    )
