-- The limits of a line.
use Rattle.std.specs.Prelude.{ℕ}

-- how many bytes a line has at most
abbrev pub room : ℕ
room = 192

-- how many digits a number has at most
abbrev pub most_digits : ℕ
most_digits = 20
