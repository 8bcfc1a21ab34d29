-- The limits of a register.
use Rattle.std.specs.Prelude.{ℕ}

-- how many traces a register adds at most
abbrev pub max_traces : ℕ
max_traces = 1000000

-- how many instants a trace has at most
abbrev pub max_instants : ℕ
max_instants = 1024

-- a whole, in millionths
abbrev pub millionths : ℕ
millionths = 1000000

-- the last code that names a symbol
abbrev pub last_code : ℕ
last_code = 63
