-- What taking in one trace answers, and what it leaves in the slice of figures that it is lent.
use Rattle.std.specs.Prelude.{◌≡◌, ℕ, ◌<◌, ◌≤◌, List, [], ◌∷◌, ◌++◌, length, drop, Some, None, Option, slice_index_or}
use Rattle.logfile.specs.Log.{marked}
use Rattle.logfile.specs.declared.record.Kind.{Kind}
use Rattle.register.specs.Contents.{Content, Trace, activator, target}
use Rattle.register.specs.Refusals.{code}
use Rattle.register.specs.State.{nothing_held, with_trace}
use Rattle.register.specs.Sums.{no_figures}
use Rattle.register.specs.Tallies.{Figured}
use Rattle.register.specs.declared.figures.Figures.{Figures}
use Rattle.register.specs.declared.refusal.Refusal.{Refusal}
use Rattle.report.specs.Traces.{trace_of, flaw}
use Rattle.exports.specs.Numbers.{done, no_kind, short_slice}
use Rattle.exports.specs.Rules.{SheetOf, NoSheet}

-- the kind of record that a number tells, which is the second byte of a record's mark
abbrev pub kind_of : ℕ → Option Kind
kind_of n = marked 90 n

-- each rule's figures over one trace
abbrev pub figures_over : Content → Trace → List Figures
figures_over c rs = (with_trace (nothing_held c) rs).sums

-- each rule's figures over one trace are in front, and they are counted over truth; the rest is as it was
pub record Filled (c : Content) (rs : Trace) (was left : List Figures) : Type 0 where
  pub is : left ≡ figures_over c rs ++ drop (length c.rules) was
  pub counted : (k : ℕ) → k < length c.rules → Figured (activator c k) (target c k) (rs ∷ []) (slice_index_or left k no_figures)

-- What taking in a trace by the rules of a sheet answers and leaves: the slice is too short, or the trace has a flaw, or all is done.
pub data OneTrace (c : Content) (rs : Trace) (was left : List Figures) (r : ℕ) : Type 0 where
  short : length was < length c.rules → r ≡ short_slice → left ≡ was → OneTrace c rs was left r
  flawed : length c.rules ≤ length was → (why : Refusal) → flaw rs ≡ Some why → r ≡ (code why).number → left ≡ was → OneTrace c rs was left r
  taken : length c.rules ≤ length was → flaw rs ≡ None → r ≡ done → Filled c rs was left → OneTrace c rs was left r

-- What the exported call answers and leaves: the kind is none, or there is no sheet, or the trace is taken in by the sheet's rules.
pub data Taken (rules : List ℕ) (n : ℕ) (body : List ℕ) (was left : List Figures) (r : ℕ) : Type 0 where
  unknown : kind_of n ≡ None → r ≡ no_kind → left ≡ was → Taken rules n body was left r
  unruled : (kind : Kind) → kind_of n ≡ Some kind → NoSheet rules r → left ≡ was → Taken rules n body was left r
  ruled : (kind : Kind) → kind_of n ≡ Some kind → (c : Content) → SheetOf rules c → OneTrace c (trace_of kind body) was left r → Taken rules n body was left r
