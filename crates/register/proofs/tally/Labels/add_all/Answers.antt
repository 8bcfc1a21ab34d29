-- What `add_all` needs and the search leaves open.
use Rattle.std.proofs.Common.{◌≡◌, ◌*◌, ◌<◌, length, take, set, vec_items, sym, ap, ◌∙◌, subst, arith}
use Rattle.std.proofs.lemmas.List.{get_or_read}
use Rattle.register.specs.Bounds.{Within}
use Rattle.register.specs.Limits.{max_traces, max_instants}
use Rattle.register.specs.Sums.{cell_figures, plus, no_figures}
use Rattle.register.specs.declared.figures.Figures.{Figures}
use Rattle.register.proofs.Adds.{added_more, later_within, added_length, ruled_at, rule_fits}
use Rattle.register.proofs.tally.Labels.add_all.Goals as goal

pub own-more-requires-clause-activator : goal.own-more-requires-clause-activator
own-more-requires-clause-activator c =
    let fits = rule_fits c.args.self.now.rows _ (ruled_at c.args.self.now.rows c.args.rules.now c.loop-k.k (record { activator = 0; target = 0 }) c.requires.there c.loop-k-test.true) in
    fits.0

pub own-more-requires-clause-target : goal.own-more-requires-clause-target
own-more-requires-clause-target c =
    let fits = rule_fits c.args.self.now.rows _ (ruled_at c.args.self.now.rows c.args.rules.now c.loop-k.k (record { activator = 0; target = 0 }) c.requires.there c.loop-k-test.true) in
    fits.1

pub sum-requires-clause-so_far : goal.sum-requires-clause-so_far
sum-requires-clause-so_far c =
    let more = cell_figures c.args.self.now.strip.now c.args.self.now.rows c.args.self.now.instants in
    let P : Figures → Type 0 = Within max_traces (max_instants * max_traces) in
    let len : length (vec_items c.loop-k.figures) ≡ length (vec_items c.args.figures.now) = added_length more (take c.loop-k.k c.args.rules.now) (vec_items c.args.figures.now) (vec_items c.loop-k.figures) c.loop-k.invariant in
    let k : c.loop-k.k < length (vec_items c.loop-k.figures) = omega (arith, c.args.figures.now.ok.0, c.requires.level) in
    subst P (sym (get_or_read (vec_items c.loop-k.figures) c.loop-k.k _ k c.index.ensures no_figures))
    (later_within more c.loop-k.k max_traces (max_instants * max_traces) c.args.rules.now (vec_items c.args.figures.now) _ c.requires.bounded c.loop-k.invariant)

pub loop-k-preserved : goal.loop-k-preserved
loop-k-preserved c =
    let more = cell_figures c.args.self.now.strip.now c.args.self.now.rows c.args.self.now.instants in
    let len : length (vec_items c.loop-k.figures) ≡ length (vec_items c.args.figures.now) = added_length more (take c.loop-k.k c.args.rules.now) (vec_items c.args.figures.now) (vec_items c.loop-k.figures) c.loop-k.invariant in
    let k : c.loop-k.k < length (vec_items c.loop-k.figures) = omega (arith, c.args.figures.now.ok.0, c.requires.level) in
    added_more more c.loop-k.k c.args.rules.now
    (vec_items c.args.figures.now) (vec_items c.loop-k.figures) _ c.index.result.now (record { activator = 0; target = 0 })
    c.loop-k-test.true c.loop-k.invariant
    (get_or_read (vec_items c.loop-k.figures) c.loop-k.k _ k c.index.ensures no_figures)
    (ap (λ f. set (vec_items c.loop-k.figures) c.loop-k.k f)
    (c.sum.ensures ∙ ap (plus c.index.result.now) c.own-more.ensures.value))
