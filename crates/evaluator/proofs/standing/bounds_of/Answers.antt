-- What `bounds_of` needs and the search leaves open.
use Rattle.std.proofs.Common.{ℕ, List, subst, rules}
use Rattle.evaluator.specs.Standing.{WhereSure, WherePossible}
use Rattle.evaluator.proofs.Standings.{sure, possible, bounds_folded}
use Rattle.evaluator.proofs.standing.bounds_of.Goals as goal

pub returns : goal.returns
returns c =
    let rows = c.args.rows.now in
    let s = c.folded.result in
    let short = c.of-short.result.instants.now in
    let bounds = bounds_folded short _ _ c.nowhere.result c.nowhere.ensures.surely c.nowhere.ensures.possibly (λ x p h. search rules) (λ x a b out h. search rules) (λ x a b out h. search rules) c.folded.ensures in
    record {
      surely = subst (λ (trace : List ℕ). WhereSure rows trace c.args.r s.surely) c.of-short.ensures (sure rows short c.args.r s.surely bounds.0);
      possibly = subst (λ (trace : List ℕ). WherePossible rows trace c.args.r s.possibly) c.of-short.ensures (possible rows short c.args.r s.possibly bounds.1);
    }
