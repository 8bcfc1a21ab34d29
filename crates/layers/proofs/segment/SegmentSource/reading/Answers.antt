use Rattle.std.proofs.lemmas.Result.{err_from_is_err_and}
use Rattle.std.proofs.Common.{sym, ap, ◌∙◌, Err}
use Rattle.layers.specs.Layers.{segment}
use Rattle.trace.proofs.Answers.{answer_outside}
use Rattle.layers.proofs.segment.SegmentSource.reading.Goals as goal

pub returns-in_err-index : goal.returns-in_err-index
returns-in_err-index g c =
    let s = c.args.self.now in
    let rs = g.S.Source.readings s.below in
    let e = c.in_err-index.ensures in
    let p = err_from_is_err_and c.from_residual.result c.from_residual.ensures.1 in
    p.1 ∙ ap Err p.2 ∙ e.0 ∙ sym (answer_outside (segment s.first s.last rs) c.args.instant _ (sym c.len.ensures) e.1)
