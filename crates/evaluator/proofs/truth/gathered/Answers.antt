-- What `gathered` needs and the search leaves open.
use Rattle.std.proofs.Common.{rules}
use Rattle.evaluator.proofs.Sets.{exactly_answered}
use Rattle.evaluator.proofs.truth.gathered.Goals as goal

pub returns : goal.returns
returns c = exactly_answered c.passing.result _ _ _ (λ i b low high h. search rules) c.passing.ensures
