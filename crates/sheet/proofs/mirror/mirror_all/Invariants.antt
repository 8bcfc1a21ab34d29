-- What the loop of `mirror_all` keeps.
use Rattle.std.proofs.Common.{◌≡◌, ◌++◌, map, take, drop}
use Rattle.sheet.proofs.mirror.mirror_all.Given as goal

-- the items so far are mirrored, and the others are as they were
abbrev pub invariant-loop-item : goal.invariant-loop-item
invariant-loop-item g l = l.items ≡ map g.T.Mirror.mirror (take l.item-index l.initial.items) ++ drop l.item-index l.initial.items
