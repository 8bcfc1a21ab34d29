use Rattle.std.proofs.Common.{◌^◌, ◌<◌, ap, rules}
use Rattle.trace.proofs.Bits.{set_with, set_without, of_bits, joined_members}
use Rattle.trace.proofs.symbols.SymbolSet.with.Goals as goal

pub returns-then-symbol-lt-SYMBOLS-clause-members : goal.returns-then-symbol-lt-SYMBOLS-clause-members
returns-then-symbol-lt-SYMBOLS-clause-members c =
    let fits : c.args.self.bits < 2 ^ 64 = search rules in
    let e = ap of_bits (set_with c.args.self c.args.symbol c.if-symbol-lt-SYMBOLS.true fits) in
    joined_members c.args.self _ c.args.symbol e

pub returns-then-symbol-lt-SYMBOLS-clause-value : goal.returns-then-symbol-lt-SYMBOLS-clause-value
returns-then-symbol-lt-SYMBOLS-clause-value c =
    let fits : c.args.self.bits < 2 ^ 64 = search rules in
    let e = ap of_bits (set_with c.args.self c.args.symbol c.if-symbol-lt-SYMBOLS.true fits) in
    e

pub returns-else-symbol-lt-SYMBOLS-clause-value : goal.returns-else-symbol-lt-SYMBOLS-clause-value
returns-else-symbol-lt-SYMBOLS-clause-value c =
    let fits : c.args.self.bits < 2 ^ 64 = search rules in
    let e = ap of_bits (set_without c.args.self c.args.symbol c.if-symbol-lt-SYMBOLS.false fits) in
    e
