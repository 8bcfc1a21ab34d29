-- The numbers of the generator: a linear congruence modulo 2^64, of which the upper 31 bits are used.
use Rattle.std.specs.Prelude.{ℕ, ◌+◌, ◌*◌, ◌/◌, ◌%◌, ◌^◌, cond, ◌==◌, nat_lt}

-- the state after a state
abbrev pub stepped : ℕ → ℕ
stepped s = (s * 6364136223846793005 % 2 ^ 64 + 1442695040888963407) % 2 ^ 64

-- the number below a limit that a state gives; 0 where the limit is 0
abbrev pub drawn : ℕ → ℕ → ℕ
drawn s limit = cond (limit == 0) 0 (s / 2 ^ 33 % limit)

-- a number that is a byte, or 0
abbrev pub small : ℕ → ℕ
small x = cond (nat_lt x 256) x 0
