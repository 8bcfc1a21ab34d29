-- What `random_row` needs and the search leaves open.
use Rattle.std.proofs.Common.{arith}
use Rattle.sampling.proofs.sheets.random_row.Goals as goal

-- the symbol is drawn first
pub returns-in-Always : goal.returns-in-Always
returns-in-Always c = λ some. c.row_of.ensures c.args.count (c.byte-a.ensures.within some) (c.byte-b.ensures.within some) (omega (arith, c.byte-symbol.ensures.within (omega arith)))

-- no symbol is needed
pub returns-then-kind-lt-SYMBOLS_FROM : goal.returns-then-kind-lt-SYMBOLS_FROM
returns-then-kind-lt-SYMBOLS_FROM c = λ some. c.row_of-then-kind-lt-SYMBOLS_FROM.ensures c.args.count (c.byte-a.ensures.within some) (c.byte-b.ensures.within some) (omega arith)
