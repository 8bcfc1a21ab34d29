-- What `add` needs and the search leaves open.
use Rattle.std.proofs.Common.{◌≡◌, ◌+◌, ◌<◌, ◌≤◌, length, vec_items, vec_len, sym, refl, ap, subst, arith}
use Rattle.register.specs.Bounds.{Within}
use Rattle.register.specs.Contents.{content}
use Rattle.register.specs.Limits.{max_traces, max_instants}
use Rattle.register.specs.Sums.{own}
use Rattle.register.proofs.Adds.{added_length, sums_own, bounded_added}
use Rattle.register.proofs.Owned.{own_within}
use Rattle.register.proofs.Table.{room_left}
use Rattle.register.proofs.totals.Totals.add.Goals as goal

pub invariant_of-self-2 : goal.invariant_of-self-2
invariant_of-self-2 g c =
    let t = c.args.self.now in
    let rs = g.S.Source.readings c.args.source.now in
    let below : c.args.self.now.traces < max_traces = omega arith in
    let at = room_left t.traces (length c.args.strip.now) (length rs) (vec_len t.sheet.rows) (vec_len t.sheet.rows) c.in_ok-n.n
    below c.in_ok-n.ensures.answer refl in
    let few : c.in_ok-n.n ≤ max_instants = omega (arith, g.S.Source.few c.args.source.now, at.1) in
    let sums = sums_own t rs (length c.rows.result.now) c.in_ok-n.n c.settle.new.strip _ c.rules.result.now (vec_items c.add_all.new.figures)
    (ap length c.rows.ensures.value) at.1 c.rules.ensures.value c.in_ok-n.ensures.cells c.add_all.ensures in
    let len : length (vec_items c.add_all.new.figures) ≡ length (vec_items t.figures)
    = added_length (own (vec_items t.sheet.rows) rs) (vec_items t.sheet.rules) (vec_items t.figures) (vec_items c.add_all.new.figures) sums in record {
      level = omega (arith, c.add_all.new.figures.ok.0, t.figures.ok.0, t.level);
      few = omega arith;
      short = omega (arith, t.short);
      bounded = bounded_added (own (vec_items t.sheet.rows) rs) t.traces t.instants c.in_ok-n.n (vec_items t.sheet.rules) (vec_items t.figures) _
          (λ r. subst (λ n. Within 1 n (own (vec_items t.sheet.rows) rs r)) (sym at.1) (own_within (vec_items t.sheet.rows) rs r)) t.bounded sums;
    }

pub returns-clause-sums : goal.returns-clause-sums
returns-clause-sums g c =
    let t = c.args.self.now in
    let rs = g.S.Source.readings c.args.source.now in
    let below : c.args.self.now.traces < max_traces = omega arith in
    let at = room_left t.traces (length c.args.strip.now) (length rs) (vec_len t.sheet.rows) (length (vec_items t.sheet.rows)) c.in_ok-n.n
    below c.in_ok-n.ensures.answer t.sheet.rows.ok.0 in
    let sums = sums_own t rs (length c.rows.result.now) c.in_ok-n.n c.settle.new.strip _ c.rules.result.now (vec_items c.add_all.new.figures)
    (ap length c.rows.ensures.value) at.1 c.rules.ensures.value c.in_ok-n.ensures.cells c.add_all.ensures in
    λ i. record { content = content t.sheet; traces = t.traces + 1; instants = t.instants + at.1 i; sums = sums i }
