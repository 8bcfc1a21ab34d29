-- Why `folded` ends.
use Rattle.std.proofs.Common.{length}
use Rattle.evaluator.proofs.fold.+folded.Given as goal

-- the operands are looked for among fewer rows
abbrev pub decreases-folded : goal.decreases-folded
decreases-folded g l = length l.rows.now
