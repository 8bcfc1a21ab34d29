-- What `label` needs and the search leaves open.
use Rattle.std.proofs.Common.{◌≡◌, ◌*◌, ◌≤◌, length, vec_items, vec_len, sym, ap, ◌∙◌, subst, arith}
use Rattle.label.proofs.Blocks.{strip_is}
use Rattle.label.proofs.labelling.label.Goals as goal

pub returns-clause-cells : goal.returns-clause-cells
returns-clause-cells g c =
    let sheet = c.args.sheet.now in
    let k = vec_len sheet.rows in
    let n = c.instants-n.result in
    let many : length c.rows.result.now ≡ k = ap length c.rows.ensures.value ∙ sym sheet.rows.ok.0 in
    let room : n * k ≤ length c.backward.new.strip = subst (λ x. n * x ≤ length c.backward.new.strip) many (omega arith) in
    strip_is g.K.VerdictKind.after (g.S.Source.readings c.args.source.now) (vec_items sheet.rows) n k c.backward.new.strip c.args.strip.now c.instants-n.ensures.count sheet.rows.ok.0 room c.backward.ensures.cells (c.backward.ensures.rest ∙ c.forward.ensures.rest)
