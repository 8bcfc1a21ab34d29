-- The number by which a call answers that ends in a failure.
use Rattle.std.proofs.Common.{◌≡◌, Result, ap, ◌∙◌}
use Rattle.std.specs.Result.{IsErr, IsErrAnd}
use Rattle.std.proofs.lemmas.Result.{err_from_is_err_and}
use Rattle.exports.specs.Failures.{number_of, answered}
use Rattle.exports.specs.declared.answer.Failure.{Failure}

-- What a `?` hands out is told by the failure that it makes.
pub told_as : (r : Result (Unit {0}) Failure) (e : Failure) → IsErr r × IsErrAnd r (λ x. x ≡ e) → answered r ≡ number_of e
told_as r e h = let p = err_from_is_err_and r h.1 in ap answered p.1 ∙ ap number_of p.2
