-- How many comparisons were made, and how many agreed.
use Rattle.std.specs.Prelude.{ℕ, ◌+◌, ◌-◌, ◌^◌, min, Bool, cond}
use Rattle.sampling.specs.declared.tally.Tally.{Tally}

-- a sum, or the largest number of 64 bits where the sum is larger
abbrev pub sum : ℕ → ℕ → ℕ
sum x y = min (x + y) (2 ^ 64 - 1)

-- a tally with one comparison more
abbrev pub noted : Tally → Bool → Tally
noted t agrees = record { compared = sum t.compared 1; agreed = cond agrees (sum t.agreed 1) t.agreed }

-- the comparisons of both
abbrev pub summed : Tally → Tally → Tally
summed t u = record { compared = sum t.compared u.compared; agreed = sum t.agreed u.agreed }
