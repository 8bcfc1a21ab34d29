-- The end of a report: the totals, and the lines of the rules.
use Rattle.std.proofs.Common.{◌≡◌, ℕ, suc, ◌+◌, ◌-◌, ◌<◌, ◌≤◌, Bool, List, ◌++◌, length, get_or, Some, None, Ok, Err, fold, Option, Result, sym, refl, ap, ◌∙◌, subst, append_assoc, arith}
use borrow.Author.Tests.{lt-leb}
use Rattle.std.proofs.lemmas.List.Sums.{fold_push}
use Rattle.lines.specs.Lines.{totals, rule, refused_log}
use Rattle.logfile.specs.Log.{answers}
use Rattle.register.specs.Answers.{of_told}
use Rattle.register.specs.Calls.{Call, Answer, reading, refused, figures, when, unless}
use Rattle.register.specs.Contents.{Content, Trace, activator, target}
use Rattle.register.specs.History.{History, made, asked, LawOfRuns, figures_of}
use Rattle.register.specs.Journal.{blank_journal, instants}
use Rattle.register.specs.Refusals.{code}
use Rattle.register.specs.State.{State, state, fresh, next, reply, given}
use Rattle.register.specs.Sums.{no_figures, telling}
use Rattle.register.specs.Tallies.{Figured}
use Rattle.register.specs.declared.figures.Figures.{Figures}
use Rattle.register.specs.declared.figures.Told.{Told}
use Rattle.register.specs.declared.refusal.Refusal.{Refusal}
use Rattle.register.specs.declared.refusal.Refusal.TheVariants.{NoRule}
use Rattle.register.specs.declared.register.Register.{Register}
use Rattle.report.specs.Counts.{Logged}
use Rattle.report.specs.Output.{notes, stopped, ended, stop_line, rule_lines, log_journal, log_lines, log_state, log_figures, Whole}
use Rattle.report.specs.Traces.{traces_in, takings, flawless}
use Rattle.report.specs.Limits.{max_log}
use Rattle.report.specs.declared.records.Count.{Count}
use Rattle.report.proofs.Flaws.{refused_lines, taken_traces}
use Rattle.sheet.specs.Limits.{max_rows}

-- a told answer is no refusal
granted : (a : Result Told Refusal) (t : Told) → of_told a ≡ figures t → a ≡ Ok t
granted (Ok u) t e = let same : u ≡ t = cc in ap (λ (x : Told). Ok x) same
granted (Err why) t e = let z : ◌≡◌ {A = ℕ} 0 1 = cc in absurd (omega arith)

-- Reading a rule that is there tells its figures.
pub readable : (v : State) (k : ℕ) (a : Result Told Refusal) → k < length v.held.content.rules → of_told a ≡ reply v (reading k)
    → a ≡ Ok (telling (get_or v.held.sums k no_figures) v.held.traces v.held.instants)
readable v k a lt e =
    granted a _
    (e ∙ ap (λ (b : Bool). unless {X = Answer} (when b NoRule None) (λ why. refused (code why)) (given v (reading k))) (lt-leb (length v.held.content.rules) k lt))

-- One rule more: its line comes before those left.
pub lines_step : (f : ℕ → Figures) (k m : ℕ) → k < m → rule_lines k (m - k) f ≡ rule k (f k) ++ rule_lines (k + 1) (m - (k + 1)) f
lines_step f k m lt = ap (λ (n : ℕ). rule_lines k n f) {x = m - k} {y = suc (m - (k + 1))} (omega arith)

-- What a register holds after its calls.
history_state : (c : Content) (mark : ℕ) (calls : List Call) (r : Register) → History c mark calls r → state r ≡ fold next (fresh c mark) calls
history_state c mark _ r (made e) = e
history_state c mark _ s (asked {calls} {r} call h e) =
    e ∙ ap (λ (v : State). next v call) (history_state c mark calls r h) ∙ sym (fold_push next (fresh c mark) calls call)

-- Lines that end so are the lines, that line, and more.
ended_is : (before : List ℕ) (stop : Option ℕ) (more : List ℕ) → ended before stop more ≡ before ++ (stopped stop ++ more)
ended_is before None more = refl
ended_is before (Some place) more = append_assoc before (refused_log place) more

-- What is added in three steps is the whole report.
pub whole_from : (c : Content) (log : List ℕ) (r : Register) (k : Count) (stop : Option ℕ) (first second third : List ℕ) (m : ℕ) → LawOfRuns
    → length c.rows ≤ max_rows → length log ≤ max_log
    → Logged c log r k stop first → second ≡ ended first stop (totals k.traces k.instants)
    → m ≡ length c.rules → third ≡ second ++ rule_lines 0 m (figures_of r) → Whole c log third
whole_from c log r k stop first second third m runs rows fits logged e n g =
    let holds : state r ≡ log_state c log = history_state c 0 (takings (answers log)) r logged.past in
    let taken_in : (log_journal c log).traces ≡ flawless (traces_in (answers log)) = taken_traces c log rows fits in
    let before : List ℕ = notes 1 (blank_journal c 0) (takings (answers log)) in
    let sums : List ℕ = totals (length (log_journal c log).traces) (instants (log_journal c log).traces) in
    let line : totals k.traces k.instants ≡ sums
    = ap (λ (x : ℕ). totals x k.instants) logged.traces ∙ ap (totals (length (log_journal c log).traces)) logged.instants_are in
    let so_far : second ≡ log_lines c log ++ sums
    = e ∙ ended_is first stop (totals k.traces k.instants) ∙ ap (λ (x : List ℕ). x ++ (stopped stop ++ totals k.traces k.instants)) logged.lines
    ∙ ap (λ (x : List ℕ). before ++ (x ++ totals k.traces k.instants)) logged.stops
    ∙ ap (λ (x : List ℕ). before ++ (stop_line (answers log) ++ x)) line
    ∙ sym (append_assoc before (stop_line (answers log)) sums) in
    record {
      is = g ∙ ap (λ (x : ℕ). second ++ rule_lines 0 x (figures_of r)) n
          ∙ ap (λ (v : State). second ++ rule_lines 0 (length c.rules) (λ (i : ℕ). get_or v.held.sums i no_figures)) holds
          ∙ ap (λ (x : List ℕ). x ++ rule_lines 0 (length c.rules) (log_figures c log)) so_far
          ∙ append_assoc (log_lines c log) sums (rule_lines 0 (length c.rules) (log_figures c log));
      refusals = refused_lines c log rows fits;
      taken = taken_in;
      counted = λ i lt.
          subst (λ (ts : List Trace). Figured (activator c i) (target c i) ts (log_figures c log i)) taken_in
          (subst (λ (v : State). Figured (activator c i) (target c i) (log_journal c log).traces (get_or v.held.sums i no_figures)) holds
          ((runs c 0 (takings (answers log)) r logged.past).tallies i lt));
    }
