-- What `mirror_all` needs and the search leaves open.
use Rattle.std.proofs.Common.{set, sym, ap, ◌∙◌}
use Rattle.std.proofs.lemmas.List.Edits.{map_over_more}
use Rattle.sheet.proofs.mirror.mirror_all.Goals as goal

pub loop-item-preserved : goal.loop-item-preserved
loop-item-preserved g c =
    let f = g.T.Mirror.mirror in
    let items = c.loop-item.items in
    let i = c.loop-item.item-index in
    ap (set items i) (c.mirrored.ensures ∙ ap f (sym c.item-item.is)) ∙ map_over_more f c.args.items.now items i c.item-item.result c.loop-item-test.true c.loop-item.invariant c.item-item.is
