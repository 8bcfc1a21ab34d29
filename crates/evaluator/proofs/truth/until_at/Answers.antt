-- What `until_at` needs and the search leaves open.
use Rattle.std.proofs.Common.{◌+◌, rules, tests, arith}
use Rattle.evaluator.specs.Quantifiers.{In, AllIn}
use Rattle.evaluator.proofs.Ranges.{any_decides, inclusive_up}
use Rattle.evaluator.proofs.truth.until_at.Goals as goal

pub returns : goal.returns
returns c =
    let l = c.args in
    let d = any_decides _ _ (search rules) (λ j. In l.b j × AllIn (In l.a) l.i j) (λ j e. search (rules, tests)) (λ j e. search (rules, tests)) _ l.i (l.n + 1) (inclusive_up _ l.i l.n c.new.ensures.start c.new.ensures.end c.new.ensures.exhausted) c.any.result c.any.ensures.runs in (
      (λ e. let x = d.0 e in let high = x.2 in (x.0, x.1, omega arith, x.3.0, x.3.1)),
      λ u. let high = u.2 in d.1 (u.0, u.1, omega arith, (u.3, u.4)),
    )
