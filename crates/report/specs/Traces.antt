-- The traces of a log's records, which of them are refused, and the calls that take them in.
use Rattle.std.specs.Prelude.{ℕ, List, [], ◌∷◌, length, None, Option, ◌==◌}
use Rattle.bottoms.specs.Records.{bounded, codes, snapshots, runs}
use Rattle.logfile.specs.Log.{Found, at_end, refused, got}
use Rattle.logfile.specs.declared.record.Kind.{Kind}
use Rattle.logfile.specs.declared.record.Kind.TheVariants.{Codes, Snapshots, Runs}
use Rattle.register.specs.Calls.{Call, taking_in, when, unreadable, unless}
use Rattle.register.specs.Contents.{Trace}
use Rattle.register.specs.declared.refusal.Refusal.{Refusal}
use Rattle.register.specs.declared.refusal.Refusal.TheVariants.{Blank}
use Rattle.trace.specs.Unreadable.{first_unreadable}
use Rattle.report.specs.Limits.{strip_cells}

-- the trace of a record: the readings of its body by the bottom of its kind
abbrev pub trace_of : Kind → List ℕ → Trace
trace_of Codes body = bounded (codes 0 body)
trace_of Snapshots body = bounded (snapshots 0 body)
trace_of Runs body = bounded (runs 0 body)

-- the call that takes in a record's trace, onto a strip that suffices for every trace
abbrev pub taking : Kind → List ℕ → Call
taking kind body = taking_in (trace_of kind body) strip_cells

-- the traces of the records that a reader answers, in their order
abbrev pub traces_in : List Found → List Trace
traces_in [] = []
traces_in (at_end ∷ rest) = traces_in rest
traces_in (refused t ∷ rest) = traces_in rest
traces_in (got kind body place ∷ rest) = trace_of kind body ∷ traces_in rest

-- the calls that take these traces in
abbrev pub takings : List Found → List Call
takings [] = []
takings (at_end ∷ rest) = takings rest
takings (refused t ∷ rest) = takings rest
takings (got kind body place ∷ rest) = taking kind body ∷ takings rest

-- why a trace is refused, whatever else was taken in: it has no instant, or an instant that cannot be read, the first of which is told
abbrev pub flaw : Trace → Option Refusal
flaw rs = when (length rs == 0) Blank (unreadable (first_unreadable 1 rs) None)

-- the traces that have no flaw
abbrev pub flawless : List Trace → List Trace
flawless [] = []
flawless (rs ∷ rest) = unless (flaw rs) (λ _. flawless rest) (rs ∷ flawless rest)
