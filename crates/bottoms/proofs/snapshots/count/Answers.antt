use Rattle.std.proofs.Common.{sym}
use Rattle.bottoms.proofs.Layouts.{halved_snapshots}
use Rattle.bottoms.proofs.snapshots.count.Goals as goal

pub returns : goal.returns
returns c = sym (halved_snapshots 0 c.args.bytes.now _ c.div_ceil.ensures)
