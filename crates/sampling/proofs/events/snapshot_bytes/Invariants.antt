-- What the loop of `snapshot_bytes` keeps.
use Rattle.std.proofs.Common.{◌≡◌, take, vec_items}
use Rattle.sampling.specs.Lists.{snapshots}
use Rattle.sampling.proofs.events.snapshot_bytes.Given as goal

-- the bytes of the instants so far
abbrev pub invariant-loop-symbols : goal.invariant-loop-symbols
invariant-loop-symbols l = vec_items l.bytes ≡ snapshots (take l.symbols-index l.events)
