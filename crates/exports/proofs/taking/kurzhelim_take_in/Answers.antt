-- What `kurzhelim_take_in` needs and the search leaves open.
use Rattle.std.proofs.Common.{ℕ, sym, subst}
use Rattle.exports.specs.Taking.{Taken}
use Rattle.exports.proofs.taking.kurzhelim_take_in.Goals as goal

pub returns : goal.returns
returns c =
    subst (λ (n : ℕ). Taken c.args.rules.now c.args.kind c.args.body.now c.args.figures.now c.take_in.new.figures n) (sym c.answer.ensures) c.take_in.ensures
