-- What `looks_of` needs and the search leaves open.
use Rattle.std.proofs.Common.{rules}
use Rattle.evaluator.proofs.Refused.{looks_folded}
use Rattle.evaluator.proofs.refusals.looks_of.Goals as goal

pub returns : goal.returns
returns c = looks_folded _ _ c.nowhere.result c.nowhere.ensures (λ x p h. search rules) (λ x a b out h. search rules) c.folded.ensures
