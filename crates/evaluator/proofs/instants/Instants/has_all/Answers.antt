-- What `has_all` needs and the search leaves open.
use Rattle.std.proofs.Common.{rules, tests}
use Rattle.evaluator.specs.Quantifiers.{In}
use Rattle.evaluator.proofs.Ranges.{all_decides, range_up}
use Rattle.evaluator.proofs.instants.Instants.has_all.Goals as goal

pub returns : goal.returns
returns c = all_decides _ _ (search rules) (In c.args.self) (λ k e. search (rules, tests)) (λ k e. search (rules, tests)) _ c.args.from c.args.to (range_up _) c.all.result c.all.ensures.runs
