use Rattle.trace.proofs.Bits.{has_where}
use Rattle.trace.proofs.symbols.SymbolSet.contains.Goals as goal

pub returns-then-symbol-lt-SYMBOLS-clause-law : goal.returns-then-symbol-lt-SYMBOLS-clause-law
returns-then-symbol-lt-SYMBOLS-clause-law c =
    has_where

pub returns-else-symbol-lt-SYMBOLS-clause-law : goal.returns-else-symbol-lt-SYMBOLS-clause-law
returns-else-symbol-lt-SYMBOLS-clause-law c =
    has_where
