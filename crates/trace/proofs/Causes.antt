-- The words of a cause that is another recorder's. Assumes nothing.
use Rattle.std.proofs.Common.{◌≡◌, ◌≢◌, ℕ, sym, refl}
use Rattle.std.specs.Prelude.{codes}
use Rattle.std.proofs.lemmas.Bool.{ne_eqb}
use Rattle.trace.specs.declared.reading.Cause.{Cause}
use Rattle.trace.specs.declared.reading.Cause.TheVariants.{BadCode, CutShort, TooLong, BadSegment, NoInstant}
use Rattle.trace.specs.Readings.{cause_number, cause_words}

-- a number that is no cause's has the words of the recorder's own
pub other_words : (n : ℕ) → ((cause : Cause) → cause_number cause ≢ n) → codes "a cause of the recorder's own" ≡ cause_words n
other_words n h = rw (ne_eqb n 1 (λ e. h BadCode (sym e)), ne_eqb n 2 (λ e. h CutShort (sym e)), ne_eqb n 3 (λ e. h TooLong (sym e)), ne_eqb n 4 (λ e. h BadSegment (sym e)), ne_eqb n 5 (λ e. h NoInstant (sym e))) refl
