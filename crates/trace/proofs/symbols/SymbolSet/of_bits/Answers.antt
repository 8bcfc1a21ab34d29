use Rattle.std.proofs.Common.{◌^◌, ◌<◌, refl, ap, rules}
use Rattle.trace.specs.Symbols.{bit_set}
use Rattle.trace.proofs.Bits.{set_from_bits, of_bits}
use Rattle.trace.proofs.symbols.SymbolSet.of_bits.Goals as goal

pub returns : goal.returns
returns c =
    let fits : c.args.bits < 2 ^ 64 = search rules in
    ap of_bits (set_from_bits c.args.bits (bit_set c.args.bits) fits (λ t l. refl))
