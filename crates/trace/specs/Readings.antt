-- What an instant of a trace shows. Assumes nothing.
use Rattle.std.specs.Prelude.{◌≡◌, ◌≢◌, ◌⊎◌, ◌<◌, ℕ, ◌+◌, ◌-◌, min, Bool, false, cond, List, Result, Ok, Err, ◌==◌, slice_index_or, codes, decimal, ◌++◌, MatchResult}
use Rattle.trace.specs.Symbols.{has}
use Rattle.trace.specs.declared.reading.Event.{Event}
use Rattle.trace.specs.declared.reading.Fault.{Fault}
use Rattle.trace.specs.declared.reading.Cause.{Cause}
use Rattle.trace.specs.declared.reading.Cause.TheVariants.{BadCode, CutShort, TooLong, BadSegment, NoInstant}
use Rattle.trace.specs.declared.reading.OtherCause.{OtherCause}

-- a reading: an event, or a fault
abbrev pub Reading : Type 0
Reading = Result Event Fault

-- The numbers of the causes of faults: a code above 63, a lone last byte, a record of more than 1,024 instants, a segment
-- that is not all there, an instant that the trace does not have.
abbrev pub cause_bad_code : ℕ
cause_bad_code = 1

abbrev pub cause_cut_short : ℕ
cause_cut_short = 2

abbrev pub cause_too_long : ℕ
cause_too_long = 3

abbrev pub cause_bad_segment : ℕ
cause_bad_segment = 4

abbrev pub cause_no_instant : ℕ
cause_no_instant = 5

-- the number of each cause
abbrev pub cause_number : Cause → ℕ
cause_number BadCode = cause_bad_code
cause_number CutShort = cause_cut_short
cause_number TooLong = cause_too_long
cause_number BadSegment = cause_bad_segment
cause_number NoInstant = cause_no_instant

-- the cause with this number, or the number, which is no cause's
abbrev pub Numbered : ℕ → Result Cause OtherCause → Type 0
Numbered n r = MatchResult r (λ cause. cause_number cause ≡ n) (λ other. (other.0 ≡ n) × ((cause : Cause) → cause_number cause ≢ n))

-- the words for each cause; a cause that is none of ours is the recorder's own
abbrev pub cause_words : ℕ → List ℕ
cause_words c =
    cond (c == cause_bad_code) (codes "a code above 63")
    (cond (c == cause_cut_short) (codes "a lone last byte")
    (cond (c == cause_too_long) (codes "more than 1,024 instants")
    (cond (c == cause_bad_segment) (codes "a segment that is not there")
    (cond (c == cause_no_instant) (codes "no such instant") (codes "a cause of the recorder's own")))))

-- a fault as it is printed: the cause by its number and in words, the place and the layers
abbrev pub printed : Fault → List ℕ
printed f = codes "cause " ++ (decimal f.cause ++ (codes " (" ++ (cause_words f.cause ++ (codes "), place " ++ (decimal f.place ++ (codes ", layers " ++ decimal f.layers))))))

-- a fault as it is told where it arises
abbrev pub fault : ℕ → ℕ → Reading
fault cause place = Err (record { cause = cause; place = place; layers = 0 })

-- a fault that came up through one layer more, of which 255 are counted
abbrev pub raised_fault : Fault → Fault
raised_fault f = record { cause = f.cause; place = f.place; layers = min (f.layers + 1) 255 }

-- a reading that came up through one layer more
abbrev pub raised : Reading → Reading
raised (Ok e) = Ok e
raised (Err f) = Err (raised_fault f)

-- the answer for an instant that the trace does not have: the asked number is the place
abbrev pub outside : ℕ → Reading
outside i = fault cause_no_instant i

-- The index of instant i among n, which counts from 0; or the fault of an instant that is not there.
abbrev pub Indexed : ℕ → ℕ → Result ℕ Fault → Type 0
Indexed n i r = MatchResult r (λ k. (k + 1 ≡ i) × (k < n)) (λ f. (Err f ≡ outside i) × ((i ≡ 0) ⊎ (n < i)))

-- the reading at an instant, which counts from 1
abbrev pub reading_at : List Reading → ℕ → Reading
reading_at rs i = cond (i == 0) (outside i) (slice_index_or rs (i - 1) (outside i))

-- symbol s holds in a reading; none does in a fault
abbrev pub shows : Reading → ℕ → Bool
shows (Ok e) s = has e.symbols s
shows (Err f) s = false
