-- What the evaluator is asked of: a trace, of which the first 63 instants are evaluated, and the formula of a row.
use Rattle.std.specs.Prelude.{ℕ, List, map, length, take, Ok}
use Rattle.label.specs.Truth.{Holds}
use Rattle.sheet.specs.Sheets.{formula}
use Rattle.sheet.specs.declared.row.Row.{Row}
use Rattle.trace.specs.Symbols.{bit_set, set_where}
use Rattle.trace.specs.Readings.{Reading}
use Rattle.evaluator.specs.Quantifiers.{Exactly}
use Rattle.evaluator.specs.declared.instants.Instants.{Instants}

-- the trace that shows these symbols, symbol s at an instant where the bit of value 2^s is set in its number
abbrev pub readings : List ℕ → List Reading
readings trace = map (λ bits. Ok (record { symbols = set_where (bit_set bits) })) trace

-- the set has exactly the instants of the trace at which the row numbered r holds
abbrev pub WhereTrue : List Row → List ℕ → ℕ → Instants → Type 0
WhereTrue rows trace r s = Exactly s (length trace) (Holds (readings trace) (formula rows r))

-- the part of a trace that is evaluated
abbrev pub evaluated : List ℕ → List ℕ
evaluated trace = take 63 trace
