-- What a layer makes of the readings below it. Assumes nothing.
use Rattle.std.specs.Prelude.{◌≡◌, ℕ, ◌+◌, ◌-◌, ◌≤◌, Bool, true, cond, ◌&&◌, List, [], ◌∷◌, map, reverse, length, take, drop, nat_le, Ok, Err}
use Rattle.trace.specs.Readings.{Reading, fault, raised, raised_fault, reading_at, cause_bad_segment}
use Rattle.layers.specs.Renamings.{images}

-- read from the last instant to the first
abbrev pub reversed : List Reading → List Reading
reversed rs = map raised (reverse rs)

-- a reading with its symbols renamed by the table
abbrev pub renamed : List ℕ → Reading → Reading
renamed table (Ok e) = Ok (record { symbols = images table e.symbols })
renamed table (Err f) = Err (raised_fault f)

-- the instants a to b are there: 1 ≤ a ≤ b ≤ the number of instants
abbrev pub fitting : ℕ → ℕ → List Reading → Bool
fitting a b rs = nat_le 1 a && (nat_le a b && nat_le b (length rs))

-- the instants a to b, or one fault at the place a where they are not all there
abbrev pub segment : ℕ → ℕ → List Reading → List Reading
segment a b rs = cond (fitting a b rs) (map raised (take (b - a + 1) (drop (a - 1) rs))) (fault cause_bad_segment a ∷ [])

-- What reversing means: of n instants, instant i shows what instant n - i + 1 below shows, one layer higher.
abbrev pub ShowsFromTheEnd : Type 0
ShowsFromTheEnd = (rs : List Reading) (i : ℕ) → 1 ≤ i → i ≤ length rs → reading_at (reversed rs) i ≡ raised (reading_at rs (length rs - i + 1))

-- What a segment means where its instants are there: it has b - a + 1 of them, and instant i shows what instant a + i - 1 below
-- shows, one layer higher.
abbrev pub ShowsAPart : Type 0
ShowsAPart = (rs : List Reading) (a b : ℕ) → fitting a b rs ≡ true
    → (length (segment a b rs) ≡ b - a + 1)
    × ((i : ℕ) → 1 ≤ i → i ≤ b - a + 1 → reading_at (segment a b rs) i ≡ raised (reading_at rs (a + i - 1)))
