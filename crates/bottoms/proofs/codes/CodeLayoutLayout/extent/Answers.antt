use Rattle.std.proofs.Common.{arith}
use Rattle.bottoms.specs.Records.{codes}
use Rattle.bottoms.proofs.Bounded.{extent_short, extent_long}
use Rattle.bottoms.proofs.Layouts.{length_codes, place_codes}
use Rattle.bottoms.proofs.codes.CodeLayoutLayout.extent.Goals as goal

pub returns-then-n-gt-MAX_INSTANTS : goal.returns-then-n-gt-MAX_INSTANTS
returns-then-n-gt-MAX_INSTANTS c =
    let bs = c.args.bytes.now in
    extent_long (codes 0 bs) 1024 (omega (arith, length_codes 0 bs)) (place_codes 0 bs 1024 1024 (omega arith) (omega arith))

pub returns-else-n-gt-MAX_INSTANTS : goal.returns-else-n-gt-MAX_INSTANTS
returns-else-n-gt-MAX_INSTANTS c =
    let bs = c.args.bytes.now in
    extent_short (codes 0 bs) _ (length_codes 0 bs) (omega arith)
