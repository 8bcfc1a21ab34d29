-- What `count` needs and the search leaves open.
use Rattle.std.proofs.Common.{◌≡◌, ℕ, ◌+◌, ◌-◌, Bool, refl, rules, tests, sym, ◌∙◌, subst, arith}
use Rattle.std.proofs.lemmas.Iterator.{YieldsList-from_range}
use Rattle.std.proofs.lemmas.Iterator.Consumers.{YieldsList-from_filter, YieldsList-at, count_from_yields_List}
use Rattle.std.proofs.lemmas.List.Sums.{length-filter}
use Rattle.std.specs.List.{range_with_len}
use Rattle.evaluator.specs.Tallies.{Tally, pair}
use Rattle.evaluator.proofs.Tallied.{tallied}
use Rattle.evaluator.proofs.figures.count.Goals as goal

pub returns : goal.returns
returns c =
    let l = c.args in
    let few : l.n - 0 ≡ l.n = omega arith in
    let test : ℕ → Bool = λ k. pair l.a l.first l.b l.second (k + 1) in
    let range = YieldsList-at c.filter.ensures.source (YieldsList-from_range 0 l.n l.n refl few) in
    let counted = count_from_yields_List _ c.count.result c.count.ensures.ran (YieldsList-from_filter _ test range c.filter.ensures.closure (λ x r q k. search (rules, tests))) ∙ length-filter test (range_with_len 0 l.n) in
    subst (Tally l.a l.b l.first l.second l.n) (sym counted) (tallied l.a l.b l.first l.second l.n)
