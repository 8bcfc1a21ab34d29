-- The whole output: what a rules file and a log come to, and what its numbers mean.
use Rattle.std.specs.Prelude.{◌≡◌, ℕ, zero, suc, ◌+◌, ◌<◌, ◌≤◌, ◌⊎◌, List, [], ◌∷◌, ◌++◌, length, Some, None, Ok, Err, fold, Option, Result, slice_index_or}
use Rattle.lines.specs.Lines.{totals, rule, refused_record, refused_log, refused_rule, too_long}
use Rattle.logfile.specs.Log.{Found, at_end, refused, got, answers}
use Rattle.register.specs.Calls.{Call, unless}
use Rattle.register.specs.Contents.{Content, Trace, activator, target}
use Rattle.register.specs.Journal.{Journal, blank_journal, journal_refusal, journal_after, step, instants}
use Rattle.register.specs.Refusals.{code}
use Rattle.register.specs.State.{State, fresh, next}
use Rattle.register.specs.Sums.{no_figures}
use Rattle.register.specs.Tallies.{Figured}
use Rattle.register.specs.declared.figures.Figures.{Figures}
use Rattle.register.specs.declared.refusal.Refusal.{Refusal}
use Rattle.text.specs.Refusals as text
use Rattle.report.specs.Limits.{max_rules_text, max_log}
use Rattle.report.specs.Rules.{lines, Ruled, Written}
use Rattle.report.specs.Traces.{traces_in, takings, flaw, flawless}
use Rattle.report.specs.declared.rules.RefusedLine.{RefusedLine}

-- the line for what the record numbered n was answered: none for a trace that was taken in
abbrev pub shown : ℕ → Result ℕ Refusal → List ℕ
shown n (Ok k) = []
shown n (Err why) = refused_record n (code why).number

-- the line for the record numbered n, by what the journal refuses
abbrev pub note : ℕ → Journal → Call → List ℕ
note n j call = unless (journal_refusal j call) (λ why. refused_record n (code why).number) []

-- the lines for records, the first of them numbered n
abbrev pub notes : ℕ → Journal → List Call → List ℕ
notes n j [] = []
notes n j (call ∷ rest) = note n j call ++ notes (n + 1) (step j call) rest

-- the first of some values
abbrev pub first : List ℕ → ℕ
first [] = 0
first (v ∷ vs) = v

-- the line for a log whose reading stops early: the place of the record that cannot be read
abbrev pub stop_line : List Found → List ℕ
stop_line [] = []
stop_line (at_end ∷ rest) = []
stop_line (refused t ∷ rest) = refused_log (first t.values)
stop_line (got kind body place ∷ rest) = stop_line rest

-- the line for the place where reading stopped early, if it did
abbrev pub stopped : Option ℕ → List ℕ
stopped None = []
stopped (Some place) = refused_log place

-- some lines, then that line, and then more
abbrev pub ended : List ℕ → Option ℕ → List ℕ → List ℕ
ended before None more = before ++ more
ended before (Some place) more = (before ++ refused_log place) ++ more

-- the lines of m rules, the first of them numbered k, by the figures of each
abbrev pub rule_lines : ℕ → ℕ → (ℕ → Figures) → List ℕ
rule_lines k zero f = []
rule_lines k (suc m) f = rule k (f k) ++ rule_lines (k + 1) m f

-- the journal of a log: the traces of its records, less those refused
abbrev pub log_journal : Content → List ℕ → Journal
log_journal c log = journal_after c 0 (takings (answers log))

-- what the report says of the records of a log, before the totals
abbrev pub log_lines : Content → List ℕ → List ℕ
log_lines c log = notes 1 (blank_journal c 0) (takings (answers log)) ++ stop_line (answers log)

-- what a register on this sheet holds once it has taken in the records of a log
abbrev pub log_state : Content → List ℕ → State
log_state c log = fold next (fresh c 0) (takings (answers log))

-- the figures that it then has of the rule numbered k
abbrev pub log_figures : Content → List ℕ → ℕ → Figures
log_figures c log k = slice_index_or (log_state c log).held.sums k no_figures

-- The report on a log by the rules of a sheet: the lines of the records refused and of the place where reading stopped early, the
-- totals over the records not refused, and a line for each rule.
abbrev pub report_text : Content → List ℕ → List ℕ
report_text c log =
    log_lines c log
    ++ (totals (length (log_journal c log).traces) (instants (log_journal c log).traces) ++ rule_lines 0 (length c.rules) (log_figures c log))

-- the lines for the traces that have a flaw, the first trace being that of the record numbered n
abbrev pub flaw_lines : ℕ → List Trace → List ℕ
flaw_lines n [] = []
flaw_lines n (rs ∷ rest) = unless (flaw rs) (λ why. refused_record n (code why).number) [] ++ flaw_lines (n + 1) rest

-- The bytes are that report, and this is what it says: the lines of refused records are those of the traces with a flaw, each by its
-- number among all records; the traces taken in are the others; and each rule's figures are counted over truth itself, over those.
pub record Whole (c : Content) (log out : List ℕ) : Type 0 where
  pub is : out ≡ report_text c log
  pub refusals : notes 1 (blank_journal c 0) (takings (answers log)) ≡ flaw_lines 1 (traces_in (answers log))
  pub taken : (log_journal c log).traces ≡ flawless (traces_in (answers log))
  pub counted : (k : ℕ) → k < length c.rules → Figured (activator c k) (target c k) (flawless (traces_in (answers log))) (log_figures c log k)

-- a sheet with nothing on it
abbrev pub empty_sheet : Content
empty_sheet = record { rows = []; rules = [] }

-- a rules file or a log of so many bytes is too long
abbrev pub Long : ℕ → ℕ → Type 0
Long rules log = (max_rules_text < rules) ⊎ (max_log < log)

-- neither is
abbrev pub FitsIn : ℕ → ℕ → Type 0
FitsIn rules log = (rules ≤ max_rules_text) × (log ≤ max_log)

-- The whole output. Input that is too long is told alone, and so is the first refused line; else comes the report on the log.
pub data Reported (rules log out : List ℕ) : Type 0 where
  long : Long (length rules) (length log) → out ≡ too_long → Reported rules log out
  line_refused : FitsIn (length rules) (length log)
      → (why : RefusedLine) (c : Content) → Ruled 0 (lines rules) empty_sheet (Err why) c
      → out ≡ refused_rule why.number (text.code why.refusal).number → Reported rules log out
  whole : FitsIn (length rules) (length log)
      → (c : Content) → Ruled 0 (lines rules) empty_sheet (Ok tt) c → Written (lines rules) c → Whole c log out → Reported rules log out

-- A rules file and a log come to one output only.
abbrev pub OneOutput : Type 0
OneOutput = (rules log a b : List ℕ) → Reported rules log a → Reported rules log b → a ≡ b
