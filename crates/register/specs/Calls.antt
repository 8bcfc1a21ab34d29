-- The calls on a register, what they answer, and the table of refusals.
use Rattle.std.specs.Prelude.{ℕ, ◌*◌, Bool, true, false, not, ◌||◌, List, [], length, Some, None, Option, ◌==◌, nat_le, nat_lt}
use Rattle.label.specs.declared.verdict.Verdict.{Verdict}
use Rattle.sheet.specs.Refusals.{Code}
use Rattle.trace.specs.Unreadable.{first_unreadable}
use Rattle.trace.specs.declared.unreadable.UnreadableInstant.{UnreadableInstant}
use Rattle.register.specs.Contents.{Trace}
use Rattle.register.specs.Limits.{max_traces, max_instants, last_code}
use Rattle.register.specs.declared.figures.Told.{Told}
use Rattle.register.specs.declared.refusal.Refusal.{Refusal}
use Rattle.register.specs.declared.refusal.Refusal.TheVariants.{Blank, Unreadable, ShortStrip, Full, AlreadyOpen, WrongSlip, NoCode, Long, NoInstant, NoRule}

-- A call, by what it was passed: a source by its readings, a slip by its mark, a strip by its number of cells.
pub data Call : Type 0 where
  taking_in : Trace → ℕ → Call
  opening : Call
  noting : ℕ → ℕ → Call
  peeking : ℕ → ℕ → ℕ → Call
  closing : ℕ → ℕ → Call
  setting_aside : ℕ → Call
  reading : ℕ → Call

-- What a call answers: a refusal by its number and values, a number of instants, a slip by its mark, two verdicts, a rule's
-- figures, or just that it is done.
pub data Answer : Type 0 where
  refused : Code → Answer
  counted : ℕ → Answer
  slip : ℕ → Answer
  verdicts : Verdict → Verdict → Answer
  figures : Told → Answer
  done : Answer

-- this refusal where the test passes, else the rest
abbrev pub when : Bool → Refusal → Option Refusal → Option Refusal
when true why rest = Some why
when false why rest = rest

-- the refusal for an unreadable instant if there is one, else the rest
abbrev pub unreadable : Option UnreadableInstant → Option Refusal → Option Refusal
unreadable (Some u) rest = Some (Unreadable u)
unreadable None rest = rest

-- the slip with mark s is not that of the open trace
abbrev pub wrong : ℕ → ℕ → Option (List ℕ) → Bool
wrong mark s None = true
wrong mark s (Some codes) = not (s == mark)

-- the codes noted in the open trace
abbrev pub noted : Option (List ℕ) → List ℕ
noted None = []
noted (Some codes) = codes

-- a trace is open
abbrev pub is_open : Option (List ℕ) → Bool
is_open None = false
is_open (Some codes) = true

-- why one more trace of n instants is not added: there are all the traces there may be, or too few cells for n times m
abbrev pub room : ℕ → ℕ → ℕ → ℕ → Option Refusal
room traces cells n m = when (nat_le max_traces traces) Full (when (nat_lt cells (n * m)) ShortStrip None)

-- The table of refusals: for each call the causes in their order, over the numbers of rows and rules, the mark, the number of
-- traces added, and the open trace.
abbrev pub refusal : ℕ → ℕ → ℕ → ℕ → Option (List ℕ) → Call → Option Refusal
refusal rows rules mark traces opened (taking_in rs cells) =
    when (length rs == 0) Blank
    (unreadable (first_unreadable 1 rs)
    (room traces cells (length rs) rows))
refusal rows rules mark traces opened opening = when (is_open opened) AlreadyOpen None
refusal rows rules mark traces opened (noting s code) =
    when (wrong mark s opened) WrongSlip
    (when (nat_lt last_code code) NoCode
    (when (nat_le max_instants (length (noted opened))) Long None))
refusal rows rules mark traces opened (peeking s k i) =
    when (wrong mark s opened) WrongSlip
    (when (nat_le rules k) NoRule
    (when (i == 0 || nat_lt (length (noted opened)) i) NoInstant None))
refusal rows rules mark traces opened (closing s cells) =
    when (wrong mark s opened) WrongSlip
    (when (length (noted opened) == 0) Blank
    (room traces cells (length (noted opened)) rows))
refusal rows rules mark traces opened (setting_aside s) = when (wrong mark s opened) WrongSlip None
refusal rows rules mark traces opened (reading k) = when (nat_le rules k) NoRule None

-- what is made of a refusal, or y where nothing refuses
abbrev pub unless : {X : Type 0} → Option Refusal → (Refusal → X) → X → X
unless (Some why) f y = f why
unless None f y = y
