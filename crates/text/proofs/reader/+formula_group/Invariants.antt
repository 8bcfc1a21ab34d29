-- What falls as `formula` and `group` call each other.
use Rattle.std.proofs.Common.{◌+◌, ◌*◌}
use Rattle.text.proofs.reader.+formula_group.Given as goal

abbrev pub decreases-formula : goal.decreases-formula
decreases-formula l = 2 * l.left

abbrev pub decreases-group : goal.decreases-group
decreases-group l = 2 * l.left + 1
