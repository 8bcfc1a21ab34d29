-- The first instant of a trace that cannot be read. Assumes nothing.
use Rattle.std.specs.Prelude.{◌≡◌, ℕ, ◌+◌, ◌<◌, ◌≤◌, List, [], ◌∷◌, length, Some, None, Option, Ok, Err}
use Rattle.trace.specs.Readings.{Reading, reading_at}
use Rattle.trace.specs.declared.reading.Event.{Event}
use Rattle.trace.specs.declared.unreadable.UnreadableInstant.{UnreadableInstant}

-- the first unreadable instant of the readings, the first of which is that of instant i
abbrev pub first_unreadable : ℕ → List Reading → Option UnreadableInstant
first_unreadable i [] = None
first_unreadable i (Ok e ∷ rs) = first_unreadable (i + 1) rs
first_unreadable i (Err f ∷ rs) = Some (record { instant = i; fault = f })

-- the instants of the trace before k can all be read
abbrev pub ReadableBefore : List Reading → ℕ → Type 0
ReadableBefore rs k = (i : ℕ) → 1 ≤ i → i < k → (e : Event) × (reading_at rs i ≡ Ok e)

-- What is meant by the first: it is an instant of the trace, it shows that fault, and all before it can be read; and where
-- there is none, all can be read.
abbrev pub First : List Reading → Option UnreadableInstant → Type 0
First rs None = ReadableBefore rs (length rs + 1)
First rs (Some u) =
    (1 ≤ u.instant) × (u.instant ≤ length rs) × (reading_at rs u.instant ≡ Err u.fault) × ReadableBefore rs u.instant
