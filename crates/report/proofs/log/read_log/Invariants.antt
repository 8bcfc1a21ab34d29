-- What the loop of `read_log` keeps, and why it ends.
use Rattle.std.proofs.Common.{◌≡◌, ◌-◌, length, vec_items}
use Rattle.report.specs.Counts.{sheet_of}
use Rattle.report.proofs.Walks.{Sofar}
use Rattle.report.proofs.log.read_log.Given as goal

abbrev pub invariant-loop-record : goal.invariant-loop-record
invariant-loop-record l =
    (l.reader.file.now ≡ l.log) × Sofar (sheet_of l.initial.register) l.log l.register l.count (vec_items l.out.bytes) l.reader.at

abbrev pub decreases-loop-record : goal.decreases-loop-record
decreases-loop-record l = length l.log - l.reader.at
