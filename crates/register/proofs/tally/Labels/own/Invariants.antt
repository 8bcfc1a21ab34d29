-- The tallies of the instants so far.
use Rattle.std.proofs.Common.{◌≡◌, get_or}
use Rattle.label.specs.Strips.{cell}
use Rattle.label.specs.declared.verdict.Verdict.TheVariants.{No}
use Rattle.register.specs.Sums.{yes, tallied}
use Rattle.register.proofs.tally.Labels.own.Given as goal

abbrev pub invariant-loop-i : goal.invariant-loop-i
invariant-loop-i l =
    l.f ≡ tallied (λ i. yes (get_or l.self.strip.now (cell l.self.rows i l.rule.activator) No)) (λ i. yes (get_or l.self.strip.now (cell l.self.rows i l.rule.target) No)) l.i
