-- What the loop of `read_rules` keeps.
use Rattle.std.proofs.Common.{length, drop, Result}
use Rattle.register.specs.Contents.{Content, content}
use Rattle.report.specs.Rules.{lines, Ruled}
use Rattle.report.specs.declared.rules.RefusedLine.{RefusedLine}
use Rattle.report.proofs.rules.read_rules.Given as goal

-- what the lines that are left come to is what all lines come to
abbrev pub invariant-loop-k : goal.invariant-loop-k
invariant-loop-k l =
    (goal.iterator-loop-k).can_next l.k-iterator × (goal.iterator-loop-k).is_finite l.k-iterator
    × ((r : Result (Unit {0}) RefusedLine) (last : Content)
    → Ruled (length l.yielded) (drop (length l.yielded) (lines l.text)) (content l.sheet) r last
    → Ruled 0 (lines l.text) (content l.initial.sheet) r last)
