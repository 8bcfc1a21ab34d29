-- The limits of a sheet.
use Rattle.std.specs.Prelude.{ℕ}

-- how many rows a sheet has at most
abbrev pub max_rows : ℕ
max_rows = 32

-- how many rules a sheet has at most
abbrev pub max_rules : ℕ
max_rules = 8

-- how many symbols there are, counted from 0
abbrev pub symbols : ℕ
symbols = 64
