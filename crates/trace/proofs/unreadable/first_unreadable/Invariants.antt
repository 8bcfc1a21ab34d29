use Rattle.std.proofs.Common.{◌≡◌, ◌+◌, ◌-◌, ◌≤◌, drop}
use Rattle.trace.specs.Unreadable.{first_unreadable, ReadableBefore}
use Rattle.trace.proofs.unreadable.first_unreadable.Given as goal

abbrev pub invariant-loop-instant : goal.invariant-loop-instant
invariant-loop-instant g l =
    let rs = g.S.Source.readings l.source in
    (1 ≤ l.instant) × (l.instant ≤ l.n + 1) × (first_unreadable l.instant (drop (l.instant - 1) rs) ≡ first_unreadable 1 rs) × ReadableBefore rs l.instant

abbrev pub decreases-loop-instant : goal.decreases-loop-instant
decreases-loop-instant g l = l.n + 1 - l.instant
