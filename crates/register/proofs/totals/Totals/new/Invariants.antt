-- The figures so far are all 0, and there is room for all.
use Rattle.std.proofs.Common.{◌≡◌, ◌≤◌, map, take, vec_items, vec_capacity}
use Rattle.sheet.specs.Limits.{max_rules}
use Rattle.register.specs.Sums.{no_figures}
use Rattle.register.proofs.totals.Totals.new.Given as goal

abbrev pub invariant-loop-k : goal.invariant-loop-k
invariant-loop-k l =
    (vec_items l.figures ≡ map (λ _. no_figures) (take l._k (vec_items l.sheet.rules)))
    × (max_rules ≤ vec_capacity l.figures)
