-- The counting of records while a log is read.
use Rattle.std.specs.Prelude.{◌≡◌, ℕ, ◌+◌, ◌*◌, ◌≤◌, List, length, Ok, Err, Option, Result}
use Rattle.logfile.specs.Log.{answers}
use Rattle.register.specs.Contents.{Content}
use Rattle.register.specs.History.{History}
use Rattle.register.specs.Journal.{blank_journal, instants}
use Rattle.register.specs.State.{state}
use Rattle.register.specs.declared.refusal.Refusal.{Refusal}
use Rattle.register.specs.declared.register.Register.{Register}
use Rattle.report.specs.Limits.{max_records, record_line}
use Rattle.report.specs.Output.{notes, stopped, stop_line, log_journal}
use Rattle.report.specs.Traces.{takings}
use Rattle.report.specs.declared.records.Count.{Count}

-- what is written on a register's sheet
abbrev pub sheet_of : Register → Content
sheet_of r = (state r).held.content

-- a trace that was taken in has at most 1,024 instants
abbrev pub Brief : Result ℕ Refusal → Type 0
Brief (Ok n) = n ≤ 1024
Brief (Err why) = Unit {0}

-- the number of traces after one more answer
abbrev pub traces_on : ℕ → Result ℕ Refusal → ℕ
traces_on t (Ok n) = t + 1
traces_on t (Err why) = t

-- the number of instants after one more answer
abbrev pub instants_on : ℕ → Result ℕ Refusal → ℕ
instants_on i (Ok n) = i + n
instants_on i (Err why) = i

-- the count with one more record, which gave this answer
abbrev pub counted_on : Count → Result ℕ Refusal → Count
counted_on k a = record { records = k.records + 1; traces = traces_on k.traces a; instants = instants_on k.instants a }

-- what the reading of a whole log leaves: the register has taken in its records, the traces and instants are counted, the lines of
-- the records refused are written, and the place where reading stopped early is known
pub record Logged (c : Content) (log : List ℕ) (r : Register) (k : Count) (stop : Option ℕ) (out : List ℕ) : Type 0 where
  pub past : History c 0 (takings (answers log)) r
  pub kept : sheet_of r ≡ c
  pub traces : k.traces ≡ length (log_journal c log).traces
  pub instants_are : k.instants ≡ instants (log_journal c log).traces
  pub lines : out ≡ notes 1 (blank_journal c 0) (takings (answers log))
  pub stops : stopped stop ≡ stop_line (answers log)
  pub short : length out ≤ record_line * max_records
