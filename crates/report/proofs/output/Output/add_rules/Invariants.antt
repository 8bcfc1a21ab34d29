-- What the loop of `add_rules` keeps, and why it ends.
use Rattle.std.proofs.Common.{◌≡◌, ◌+◌, ◌-◌, ◌*◌, ◌≤◌, ◌++◌, vec_items, vec_len}
use Rattle.lines.specs.Limits.{room}
use Rattle.register.specs.History.{figures_of}
use Rattle.report.specs.Limits.{max_output}
use Rattle.report.specs.Output.{rule_lines}
use Rattle.report.proofs.output.Output.add_rules.Given as goal

-- the lines so far and those left are all
abbrev pub invariant-loop-k : goal.invariant-loop-k
invariant-loop-k l =
    (vec_len l.self.bytes + room * (l.rules - l.k) ≤ max_output)
    × (vec_items l.self.bytes ++ rule_lines l.k (l.rules - l.k) (figures_of l.register)
    ≡ vec_items l.initial.self.bytes ++ rule_lines 0 l.rules (figures_of l.register))
