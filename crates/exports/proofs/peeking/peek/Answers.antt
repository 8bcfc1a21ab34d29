-- What `peek` needs and the search leaves open.
use Rattle.std.proofs.Common.{◌≡◌, Ok, Err, refl, ap, subst}
use Rattle.register.specs.Contents.{Content, content}
use Rattle.register.specs.State.{State}
use Rattle.report.specs.Counts.{sheet_of}
use Rattle.exports.specs.Peeking.{Seen, ruled}
use Rattle.exports.specs.declared.answer.Failure.TheVariants.{Call}
use Rattle.exports.proofs.Failing.{told_as}
use Rattle.exports.proofs.peeking.peek.Goals as goal

pub returns-in_err-a : goal.returns-in_err-a
returns-in_err-a c =
    let sheet = c.in_ok-sheet.sheet in
    let why = c.in_err-a.field-0.0 in
    let same : sheet_of c.new-register.result ≡ content sheet = ap (λ (v : State). v.held.content) c.new-register.ensures.state_is in
    ruled (content sheet) c.in_ok-sheet.ensures (Err why)
    (subst (λ (x : Content). Seen x c.args.codes.now c.args.rule c.args.instant (Err why)) same c.in_err-a.ensures)
    (told_as c.from_residual-in_err-a.result (Call why) c.from_residual-in_err-a.ensures, refl, refl)

pub returns : goal.returns
returns c =
    let sheet = c.in_ok-sheet.sheet in
    let same : sheet_of c.new-register.result ≡ content sheet = ap (λ (v : State). v.held.content) c.new-register.ensures.state_is in
    ruled (content sheet) c.in_ok-sheet.ensures (Ok (c.in_ok-a.a, c.in_ok-a.t))
    (subst (λ (x : Content). Seen x c.args.codes.now c.args.rule c.args.instant (Ok (c.in_ok-a.a, c.in_ok-a.t))) same c.in_ok-a.ensures)
    (refl, c.verdict_number.ensures, c.verdict_number-2.ensures)
