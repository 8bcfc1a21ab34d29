-- The figures of the rules so far have the trace added.
use Rattle.std.proofs.Common.{◌≡◌, take, vec_items}
use Rattle.register.specs.Sums.{added, cell_figures}
use Rattle.register.proofs.tally.Labels.add_all.Given as goal

abbrev pub invariant-loop-k : goal.invariant-loop-k
invariant-loop-k l =
    vec_items l.figures ≡ added (cell_figures l.self.strip.now l.self.rows l.self.instants) (take l.k l.rules) (vec_items l.initial.figures)
