-- What `take_one` needs and the search leaves open.
use Rattle.std.proofs.Common.{◌≡◌, length, refl, ap, ◌∙◌, arith}
use Rattle.register.specs.Contents.{content}
use Rattle.register.specs.State.{State, state}
use Rattle.sheet.specs.Refusals.{Code}
use Rattle.report.specs.Traces.{trace_of}
use Rattle.exports.specs.Taking.{flawed, taken}
use Rattle.exports.specs.declared.answer.Failure.TheVariants.{Call}
use Rattle.exports.proofs.Failing.{told_as}
use Rattle.exports.proofs.Traces.{took, untaken, filled}
use Rattle.exports.proofs.taking.take_one.Goals as goal

pub returns-in_err-take_record : goal.returns-in_err-take_record
returns-in_err-take_record c =
    let why = c.in_err-take_record.field-0.0 in
    let all : length c.rules-rules.result.now ≡ length (content c.args.sheet).rules = ap length c.rules-rules.ensures.value in
    let u = untaken c.args.sheet c.args.kind c.args.body.now c.new-register.result c.take_record.new.register c.new-register.ensures.state_is
    why c.in_err-take_record.ensures in
    flawed (omega (arith, all, c.if-figures-rules.false)) u.0 u.1
    (told_as c.from_residual.result (Call why) c.from_residual.ensures ∙ ap (λ (x : Code). x.number) u.2) refl

pub returns : goal.returns
returns c =
    let s = c.take_record.new.register in
    let t = took c.args.sheet c.args.kind c.args.body.now c.new-register.result s c.new-register.ensures.state_is
    c.in_ok-take_record.field-0 c.in_ok-take_record.ensures in
    let all : length c.rules-rules.result.now ≡ length (content c.args.sheet).rules = ap length c.rules-rules.ensures.value in
    let kept = ap (λ (v : State). length v.held.content.rules) t.holds in
    let long : length (state s).held.sums ≡ length (content c.args.sheet).rules
    = omega (arith, s.totals.level, s.totals.figures.ok.0, s.totals.sheet.rules.ok.0, kept) in
    taken (omega (arith, all, c.if-figures-rules.false)) t.flawless refl
    (filled (content c.args.sheet) (trace_of c.args.kind c.args.body.now) s c.args.figures.now c.copy_figures.new.figures
    (length c.rules-rules.result.now) t all long c.copy_figures.ensures)
