-- What the bytes of a record mean. Assumes nothing.
use Rattle.std.specs.Prelude.{ℕ, ◌+◌, ◌*◌, cond, List, [], ◌∷◌, ◌++◌, map, length, replicate, nat_le, slice_index, Result, Ok, Err}
use Rattle.trace.specs.Readings.{Reading, fault, cause_bad_code, cause_cut_short, cause_too_long}
use Rattle.trace.specs.Symbols.{only, set_where, bit_set}

-- an instant of a record: the byte at which its code, snapshot, pair or lone byte begins, and what it shows
pub record Instant : Type 0 where
  pub place : ℕ
  pub reading : Reading

-- The overlong rule, for every layout: the trace of a record is its instants, or, where there are more than 1,024, one fault
-- at the place of instant 1,025.
abbrev pub bounded : List Instant → List Reading
bounded xs = cond (nat_le (length xs) 1024) (map (λ x. x.reading) xs) (fault cause_too_long (slice_index (map (λ x. x.place) xs) 1024) ∷ [])

-- how many instants there are, or, where there are more than 1,024, the place where instant 1,025 begins
abbrev pub extent_of : List Instant → Result ℕ ℕ
extent_of xs = cond (nat_le (length xs) 1024) (Ok (length xs)) (Err (slice_index (map (λ x. x.place) xs) 1024))

-- what the code c at the place p shows: the one symbol, or a fault above 63
abbrev pub code_reading : ℕ → ℕ → Reading
code_reading p c = cond (nat_le c 63) (Ok (record { symbols = only c })) (fault cause_bad_code p)

-- what a snapshot shows: symbol k holds where the bit of value 2 ^ k is set
abbrev pub snapshot_reading : ℕ → ℕ → Reading
snapshot_reading high low = Ok (record { symbols = set_where (bit_set (high * 256 + low)) })

-- how many instants a pair with the count byte n stands for
abbrev pub run_length : ℕ → ℕ
run_length n = n

-- a last byte that stands alone
abbrev pub lone : ℕ → Instant
lone p = record { place = p; reading = fault cause_cut_short p }

-- The instants of the bytes of a record from the place p on, in each of the three layouts.

-- each byte is a code
abbrev pub codes : ℕ → List ℕ → List Instant
codes p [] = []
codes p (c ∷ bs) = record { place = p; reading = code_reading p c } ∷ codes (p + 1) bs

-- each two bytes are a snapshot
abbrev pub snapshots : ℕ → List ℕ → List Instant
snapshots p [] = []
snapshots p (b ∷ []) = lone p ∷ []
snapshots p (high ∷ low ∷ bs) = record { place = p; reading = snapshot_reading high low } ∷ snapshots (p + 2) bs

-- each two bytes are a code and how often it comes
abbrev pub runs : ℕ → List ℕ → List Instant
runs p [] = []
runs p (b ∷ []) = lone p ∷ []
runs p (c ∷ n ∷ bs) = replicate (run_length n) (record { place = p; reading = code_reading p c }) ++ runs (p + 2) bs
