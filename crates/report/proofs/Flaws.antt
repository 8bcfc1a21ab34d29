-- Which records of a log are refused: those whose trace has a flaw. The register is never full, and the strip always suffices.
use Rattle.std.proofs.Common.{◌≡◌, ℕ, zero, suc, ◌+◌, ◌*◌, ◌<◌, ◌≤◌, Bool, eqb, ltb, List, [], ◌∷◌, ◌++◌, length, Some, None, fold, Option, sym, refl, ap, ◌∙◌, append_assoc, append-nil, mul-le-mul, arith, length-append, le-ltb}
use borrow.Author.Tests.{lt-leb}
use Rattle.lines.specs.Lines.{refused_record}
use Rattle.logfile.specs.Log.{Found, at_end, refused, got, found, onward, walk, answers}
use Rattle.register.specs.Calls.{taking_in, when, unreadable, unless, room}
use Rattle.register.specs.Contents.{Content, Trace}
use Rattle.register.specs.Journal.{Journal, blank_journal, journal_refusal, accepted, step}
use Rattle.register.specs.Limits.{max_traces, max_instants}
use Rattle.register.specs.Refusals.{code}
use Rattle.register.specs.declared.refusal.Refusal.{Refusal}
use Rattle.register.specs.declared.refusal.Refusal.TheVariants.{Blank, Full, ShortStrip}
use Rattle.sheet.specs.Limits.{max_rows}
use Rattle.trace.specs.Unreadable.{first_unreadable}
use Rattle.report.specs.Limits.{max_log, strip_cells}
use Rattle.report.specs.Output.{note, notes, flaw_lines, log_journal}
use Rattle.report.specs.Traces.{trace_of, taking, traces_in, takings, flaw, flawless}
use Rattle.report.proofs.Walks.{trace_few}

-- One more trace has room.
roomy : (traces n m : ℕ) → traces < max_traces → n ≤ max_instants → m ≤ max_rows → room traces strip_cells n m ≡ None
roomy traces n m few short rows =
    let cells : n * m ≤ strip_cells = mul-le-mul short rows in
    ap (λ (b : Bool). when b Full (when (ltb strip_cells (n * m)) ShortStrip None)) (lt-leb max_traces traces few)
    ∙ ap (λ (b : Bool). when b ShortStrip None) (le-ltb strip_cells (n * m) cells)

-- What the journal refuses is a flaw of the trace.
pub refusal_is : (j : Journal) (rs : Trace) → length rs ≤ max_instants → length j.content.rows ≤ max_rows → length j.traces < max_traces
    → journal_refusal j (taking_in rs strip_cells) ≡ flaw rs
refusal_is j rs short rows few =
    ap (λ (o : Option Refusal). when (eqb (length rs) 0) Blank (unreadable (first_unreadable 1 rs) o))
    (roomy (length j.traces) (length rs) (length j.content.rows) few short rows)

-- a journal with room for so many traces more
pub record Roomy (j : Journal) (n : ℕ) : Type 0 where
  pub rows : length j.content.rows ≤ max_rows
  pub few : length j.traces + n < max_traces

-- after one more trace, refused or not
module _ (j : Journal) (rs : Trace) (n : ℕ) (h : Roomy j (suc n)) where
  one_more : (o : Option Refusal) → Roomy (unless o (λ _. j) (accepted j (taking_in rs strip_cells))) n
  one_more (Some why) = record { rows = h.rows; few = omega (arith, h.few) }
  one_more None = record { rows = h.rows; few = omega (arith, h.few, length-append j.traces (rs ∷ [])) }

-- the traces after one more, refused or not, and what is left
appended : (j : Journal) (rs : Trace) (rest : List Trace) (o : Option Refusal)
    → (unless o (λ _. j) (accepted j (taking_in rs strip_cells))).traces ++ rest ≡ j.traces ++ unless o (λ _. rest) (rs ∷ rest)
appended j rs rest (Some why) = refl
appended j rs rest None = append_assoc j.traces (rs ∷ []) rest

-- the journal takes in the traces with no flaw
taken_on : (fs : List Found) (j : Journal) → Roomy j (length fs) → (fold step j (takings fs)).traces ≡ j.traces ++ flawless (traces_in fs)
taken_on [] j h = sym (append-nil j.traces)
taken_on (at_end ∷ fs) j h = taken_on fs j (record { rows = h.rows; few = omega (arith, h.few) })
taken_on (refused t ∷ fs) j h = taken_on fs j (record { rows = h.rows; few = omega (arith, h.few) })
taken_on (got kind body q ∷ fs) j h =
    let rs : Trace = trace_of kind body in
    let is = refusal_is j rs (trace_few kind body) h.rows (omega (arith, h.few)) in
    taken_on fs (step j (taking kind body)) (one_more j rs (length fs) h (journal_refusal j (taking kind body)))
    ∙ appended j rs (flawless (traces_in fs)) (journal_refusal j (taking kind body))
    ∙ ap (λ (o : Option Refusal). j.traces ++ unless o (λ _. flawless (traces_in fs)) (rs ∷ flawless (traces_in fs))) is

-- the lines of the records refused are those of the traces with a flaw
noted_on : (fs : List Found) (n : ℕ) (j : Journal) → Roomy j (length fs) → notes n j (takings fs) ≡ flaw_lines n (traces_in fs)
noted_on [] n j h = refl
noted_on (at_end ∷ fs) n j h = noted_on fs n j (record { rows = h.rows; few = omega (arith, h.few) })
noted_on (refused t ∷ fs) n j h = noted_on fs n j (record { rows = h.rows; few = omega (arith, h.few) })
noted_on (got kind body q ∷ fs) n j h =
    let rs : Trace = trace_of kind body in
    let is = refusal_is j rs (trace_few kind body) h.rows (omega (arith, h.few)) in
    ap (λ (x : List ℕ). note n j (taking kind body) ++ x) (noted_on fs (n + 1) (step j (taking kind body)) (one_more j rs (length fs) h (journal_refusal j (taking kind body))))
    ∙ ap (λ (o : Option Refusal). unless o (λ why. refused_record n (code why).number) [] ++ flaw_lines (n + 1) (traces_in fs)) is

-- what follows an answer is no longer than what each record is followed by
onward_few : (k : ℕ) (more : ℕ → List Found) (p : ℕ) → ((q : ℕ) → length (more q) ≤ k) → (a : Found) → length (onward more p a) ≤ k
onward_few k more p h at_end = omega arith
onward_few k more p h (refused t) = omega arith
onward_few k more p h (got kind body q) = h (p + 4 + length body)

-- a reader that is asked at most k times gives at most k answers
walk_few : (k : ℕ) (file : List ℕ) (p : ℕ) → length (walk k file p) ≤ k
walk_few zero file p = omega arith
walk_few (suc k) file p = omega (arith, onward_few k (walk k file) p (λ q. walk_few k file q) (found file p))

module _ (c : Content) (log : List ℕ) (rows : length c.rows ≤ max_rows) (fits : length log ≤ max_log) where
  roomy-log : Roomy (blank_journal c 0) (length (answers log))
  roomy-log = record { rows = rows; few = omega (arith, walk_few (length log + 1) log 0) }

  -- The traces taken in are those with no flaw.
  pub taken_traces : (log_journal c log).traces ≡ flawless (traces_in (answers log))
  taken_traces = taken_on (answers log) (blank_journal c 0) roomy-log

  -- The lines are those of the traces with a flaw.
  pub refused_lines : notes 1 (blank_journal c 0) (takings (answers log)) ≡ flaw_lines 1 (traces_in (answers log))
  refused_lines = noted_on (answers log) 1 (blank_journal c 0) roomy-log
