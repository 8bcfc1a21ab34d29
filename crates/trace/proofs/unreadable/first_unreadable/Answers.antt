use Rattle.std.proofs.Common.{sym, ◌∙◌, arith}
use Rattle.trace.proofs.Search.{past_event, one_more}
use Rattle.trace.proofs.unreadable.first_unreadable.Goals as goal

pub loop-instant-preserved : goal.loop-instant-preserved
loop-instant-preserved g c =
    let rs = g.S.Source.readings c.args.source.now in
    let i = c.loop-instant.instant in
    let inv = c.loop-instant.invariant in
    let seen = c.in_default.ensures in
    (omega arith, omega arith, sym (past_event rs i c.in_default.field-0 inv.0 (omega arith) seen) ∙ inv.2, one_more rs i c.in_default.field-0 (sym seen) inv.3)
