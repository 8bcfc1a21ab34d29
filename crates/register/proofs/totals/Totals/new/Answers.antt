-- What `new` needs and the search leaves open.
use Rattle.std.proofs.Common.{◌≡◌, ◌<◌, ◌≤◌, map, length, vec_items, ap, ◌∙◌, arith}
use Rattle.std.proofs.lemmas.List.{length-map}
use Rattle.register.specs.Sums.{no_figures}
use Rattle.register.proofs.Adds.{zero_figures, fresh_more, fresh_end, fresh_bounded}
use Rattle.register.proofs.totals.Totals.new.Goals as goal

pub loop-k-preserved : goal.loop-k-preserved
loop-k-preserved c =
    let rules = vec_items c.args.sheet.rules in
    let lt : c.loop-k._k < length (vec_items c.args.sheet.rules) = omega (arith, ap length c.rules-k-end.ensures.value) in (
      fresh_more rules c.loop-k._k (vec_items c.loop-k.figures) _ c.default.result
          lt (zero_figures c.default.result c.default.ensures) c.loop-k.invariant.0 c.push_reserved.ensures.items,
      omega (arith, c.loop-k.invariant.1, c.push_reserved.ensures.capacity),
    )

pub invariant_of-result : goal.invariant_of-result
invariant_of-result c =
    let rules = vec_items c.args.sheet.rules in
    let le : length (vec_items c.args.sheet.rules) ≤ c.loop-k._k = omega (arith, ap length c.rules-k-end.ensures.value) in
    let sums : vec_items c.loop-k.figures ≡ map (λ _. no_figures) (vec_items c.args.sheet.rules)
    = fresh_end rules c.loop-k._k (vec_items c.loop-k.figures) le c.loop-k.invariant.0 in
    let len : length (vec_items c.loop-k.figures) ≡ length (vec_items c.args.sheet.rules) = ap length sums ∙ length-map _ _ in record { level = omega (arith, c.loop-k.figures.ok.0, c.args.sheet.rules.ok.0); few = omega arith; short = omega arith; bounded = fresh_bounded rules (vec_items c.loop-k.figures) sums }
