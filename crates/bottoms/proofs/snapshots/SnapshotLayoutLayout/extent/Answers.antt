use Rattle.std.proofs.Common.{◌<◌, length, arith}
use Rattle.bottoms.specs.Records.{snapshots}
use Rattle.bottoms.proofs.Bounded.{extent_long}
use Rattle.bottoms.proofs.Layouts.{place_snapshots}
use Rattle.bottoms.proofs.snapshots.SnapshotLayoutLayout.extent.Goals as goal

pub returns-then-n-gt-MAX_INSTANTS : goal.returns-then-n-gt-MAX_INSTANTS
returns-then-n-gt-MAX_INSTANTS c =
    let bs = c.args.bytes.now in
    let long : 1024 < length (snapshots 0 bs) = omega (arith, c.count-n.ensures) in
    extent_long (snapshots 0 bs) 2048 long (place_snapshots 0 bs 1024 2048 (omega arith) long)
