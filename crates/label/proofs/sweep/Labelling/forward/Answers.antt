-- What `forward` needs and the search leaves open.
use Rattle.std.proofs.Common.{◌≡◌, ◌+◌, ◌-◌, ◌*◌, ◌≤◌, vec_items, vec_len, ◌∙◌, subst, mul-le-mul_right, arith}
use Rattle.label.specs.Steps.{Filled, back_only}
use Rattle.label.proofs.Places.{drop_later}
use Rattle.label.proofs.sweep.Labelling.forward.Goals as goal

pub loop-i-preserved : goal.loop-i-preserved
loop-i-preserved g c =
    let i = c.loop-i.i in
    let m = vec_len c.args.self.now.sheet.now.rows in
    let k : i ≤ c.args.self.now.n = omega arith in
    let e : i ≡ i + 1 - 1 = omega arith in
    let rows = vec_items c.args.self.now.sheet.now.rows in (
      subst (λ hi. Filled (back_only rows) g.K.VerdictKind.after (g.S.Source.readings c.args.self.now.source.now) rows 1 hi c.forward_instant.new.strip) e c.forward_instant.ensures.cells,
      drop_later (i * m) (c.args.self.now.n * m) c.forward_instant.new.strip c.loop-i.strip (mul-le-mul_right m k) c.forward_instant.ensures.rest ∙ c.loop-i.invariant.1,
    )
