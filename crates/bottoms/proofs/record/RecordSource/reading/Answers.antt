use Rattle.std.proofs.Common.{sym, ◌∙◌, arith}
use Rattle.bottoms.proofs.Bounded.{answer_none}
use Rattle.bottoms.proofs.record.RecordSource.reading.Goals as goal

pub returns-in-None : goal.returns-in-None
returns-in-None g c =
    let s = c.args.self.now in
    c.outside-in-None.ensures ∙ answer_none (g.L.Layout.instants s.bytes.now) c.in_default.field-0 c.args.instant (sym c.in_default.is ∙ s.measured) (omega arith) (sym c.in-None.is ∙ c.shown.ensures)
