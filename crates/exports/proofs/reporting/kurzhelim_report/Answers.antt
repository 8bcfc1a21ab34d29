-- What `kurzhelim_report` needs and the search leaves open.
use Rattle.std.proofs.Common.{◌≡◌, ◌++◌, length, drop, vec_items, ◌∙◌, arith}
use Rattle.exports.specs.Reporting.{given, short}
use Rattle.exports.proofs.Texts.{some_text}
use Rattle.exports.proofs.reporting.kurzhelim_report.Goals as goal
use Rattle.exports.proofs.reporting.kurzhelim_report.Goals.{then-n-out, else-n-out}

pub returns : goal.returns
returns c =
    let text = vec_items c.report-text.result in
    let told = c.report-text.ensures.reported in
    let some = some_text c.args.rules.now c.args.log.now text told in
    let n : c.len-n.result ≡ length text = omega (arith, c.len-n.ensures, c.report-text.result.ok.0) in
    elim c.if-n-out.branch [
      | then-n-out w ↦
          given text told some n (omega (arith, w.if-n-out.true, n))
          (w.out-is ∙ (λ i. (w.copy_from_slice.ensures.after ∙ w.as_slice.ensures.value) i ++ drop (n i) c.args.out.now))
      | else-n-out w ↦ short text told some n (omega (arith, w.if-n-out.false, n)) w.out-is
    ]
