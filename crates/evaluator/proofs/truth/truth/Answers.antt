-- What `truth` needs and the search leaves open.
use Rattle.std.proofs.Common.{ℕ, List, subst, rules}
use Rattle.evaluator.specs.Truths.{WhereTrue}
use Rattle.evaluator.proofs.Truthful.{truth_folded}
use Rattle.evaluator.proofs.truth.truth.Goals as goal

pub returns : goal.returns
returns c =
    subst (λ (trace : List ℕ). WhereTrue c.args.rows.now trace c.args.r c.folded.result) c.of-short.ensures
    (truth_folded c.of-short.result.instants.now _ _ c.none.result c.none.ensures (λ x p h. search rules) (λ x a b out h. search rules) c.folded.ensures)
