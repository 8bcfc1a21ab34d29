-- What a call's result says, as an answer; and what it leaves in the strip and of the slip.
use Rattle.std.specs.Prelude.{◌≡◌, ℕ, ◌*◌, List, ◌++◌, length, drop, Ok, Err, Result}
use Rattle.label.specs.Strips.{labels}
use Rattle.label.specs.declared.verdict.Verdict.{Verdict}
use Rattle.label.specs.declared.verdict.Verdict.TheVariants.{No}
use Rattle.sheet.specs.declared.row.Row.{Row}
use Rattle.register.specs.Calls.{Answer, refused, counted, slip, verdicts, figures, done}
use Rattle.register.specs.Contents.{Trace}
use Rattle.register.specs.Refusals.{code}
use Rattle.register.specs.declared.figures.Told.{Told}
use Rattle.register.specs.declared.refusal.Refusal.{Refusal}
use Rattle.register.specs.declared.slip.Slip.{Slip}
use Rattle.register.specs.declared.slip.Unclosed.{Unclosed}

-- the answer of take in
abbrev pub of_counted : Result ℕ Refusal → Answer
of_counted (Ok n) = counted n
of_counted (Err why) = refused (code why)

-- the answer of open
abbrev pub of_slip : Result Slip Refusal → Answer
of_slip (Ok s) = slip s.mark
of_slip (Err why) = refused (code why)

-- the answer of note
abbrev pub of_done : {X : Type 0} → Result X Refusal → Answer
of_done (Ok x) = done
of_done (Err why) = refused (code why)

-- the answer of peek
abbrev pub of_verdicts : Result (Verdict × Verdict) Refusal → Answer
of_verdicts (Ok p) = verdicts p.0 p.1
of_verdicts (Err why) = refused (code why)

-- the answer of read
abbrev pub of_told : Result Told Refusal → Answer
of_told (Ok t) = figures t
of_told (Err why) = refused (code why)

-- the answer of close
abbrev pub of_closed : Result ℕ Unclosed → Answer
of_closed (Ok n) = counted n
of_closed (Err u) = refused (code u.why)

-- the answer of set aside
abbrev pub of_aside : {X : Type 0} → Result X Unclosed → Answer
of_aside (Ok x) = done
of_aside (Err u) = refused (code u.why)

-- a refusal hands back the slip that it was given
abbrev pub HandedBack : {X : Type 0} → ℕ → Result X Unclosed → Type 0
HandedBack m (Ok x) = Unit {0}
HandedBack m (Err u) = u.slip.mark ≡ m

-- the strip after a call that adds a trace: the settled labels, and the cells past them as they were; after a refusal it is as
-- it was
abbrev pub strip_after : {E : Type 0} → Result ℕ E → Trace → List Row → List Verdict → List Verdict
strip_after (Ok n) rs rows was = labels No rs rows ++ drop (length rs * length rows) was
strip_after (Err why) rs rows was = was
