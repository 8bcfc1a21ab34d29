-- What `take_in` needs and the search leaves open.
use Rattle.std.proofs.Common.{ℕ, sym, refl, subst, inr}
use Rattle.register.specs.Contents.{content}
use Rattle.exports.specs.Rules.{NoSheet}
use Rattle.exports.specs.Taking.{unruled, ruled}
use Rattle.exports.specs.declared.answer.Failure.TheVariants.{NoMemory}
use Rattle.exports.proofs.Failing.{told_as}
use Rattle.exports.proofs.taking.take_in.Goals as goal

pub returns-in_err-room : goal.returns-in_err-room
returns-in_err-room c =
    unruled c.in_ok-kind.kind c.in_ok-kind.ensures (inr (told_as c.from_residual-in_err-room.result NoMemory c.from_residual-in_err-room.ensures)) refl

pub returns-in_err-sheet : goal.returns-in_err-sheet
returns-in_err-sheet c =
    let same = told_as c.from_residual-in_err-sheet.result c.in_err-sheet.field-0.0 c.from_residual-in_err-sheet.ensures in
    unruled c.in_ok-kind.kind c.in_ok-kind.ensures (subst (λ (n : ℕ). NoSheet c.args.rules.now n) (sym same) c.in_err-sheet.ensures) refl

pub returns : goal.returns
returns c = ruled c.in_ok-kind.kind c.in_ok-kind.ensures (content c.in_ok-sheet.sheet) c.in_ok-sheet.ensures c.take_one.ensures
