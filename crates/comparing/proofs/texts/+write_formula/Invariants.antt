-- Why `write_formula` ends.
use Rattle.std.proofs.Common.{length}
use Rattle.comparing.proofs.texts.+write_formula.Given as goal

-- the operands are looked for among fewer rows
abbrev pub decreases-write_formula : goal.decreases-write_formula
decreases-write_formula l = length l.rows.now
