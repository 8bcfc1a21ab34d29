-- Why `size` ends.
use Rattle.std.proofs.Common.{length}
use Rattle.comparing.proofs.texts.+size.Given as goal

-- the operands are looked for among fewer rows
abbrev pub decreases-size : goal.decreases-size
decreases-size l = length l.rows.now
