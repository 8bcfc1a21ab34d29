-- The plain journal of a register: which traces were taken in or closed, and what is noted in the open one. It is fed the
-- calls' arguments alone, and knows nothing of the register's sums.
use Rattle.std.specs.Prelude.{◌≡◌, ℕ, List, [], ◌∷◌, ◌++◌, length, Some, None, fold, sum_by, Option}
use Rattle.label.specs.Labels.{verdict}
use Rattle.label.specs.declared.verdict.Verdict.TheVariants.{Open}
use Rattle.register.specs.Calls.{Call, taking_in, opening, noting, peeking, closing, setting_aside, reading, Answer, refused, counted, slip, verdicts, figures, done, refusal, unless, noted}
use Rattle.register.specs.Contents.{Content, Trace, activator, target, coded_trace}
use Rattle.register.specs.Refusals.{code}
use Rattle.register.specs.Sums.{telling}
use Rattle.register.specs.Tallies.{Figured}
use Rattle.register.specs.declared.figures.Figures.{Figures}
use Rattle.register.specs.declared.refusal.Refusal.{Refusal}

-- the sheet, the mark, the traces taken in or closed with the oldest first, and the codes of the open trace
pub record Journal : Type 0 where
  pub content : Content
  pub mark : ℕ
  pub traces : List Trace
  pub opened : Option (List ℕ)

-- the journal at the beginning: no traces, none open
abbrev pub blank_journal : Content → ℕ → Journal
blank_journal c mark = record { content = c; mark = mark; traces = []; opened = None }

-- the table of refusals, judged by the journal
abbrev pub journal_refusal : Journal → Call → Option Refusal
journal_refusal j c = refusal (length j.content.rows) (length j.content.rules) j.mark (length j.traces) j.opened c

-- the journal with other traces and another open trace
abbrev pub rewritten : Journal → List Trace → Option (List ℕ) → Journal
rewritten j traces opened = record { content = j.content; mark = j.mark; traces = traces; opened = opened }

-- what a call that is not refused makes of the journal
abbrev pub accepted : Journal → Call → Journal
accepted j (taking_in rs cells) = rewritten j (j.traces ++ (rs ∷ [])) j.opened
accepted j opening = rewritten j j.traces (Some [])
accepted j (noting s code) = rewritten j j.traces (Some (noted j.opened ++ (code ∷ [])))
accepted j (peeking s k i) = j
accepted j (closing s cells) = rewritten j (j.traces ++ (coded_trace (noted j.opened) ∷ [])) None
accepted j (setting_aside s) = rewritten j j.traces None
accepted j (reading k) = j

-- the journal after a call; a refused one changes nothing
abbrev pub step : Journal → Call → Journal
step j c = unless (journal_refusal j c) (λ _. j) (accepted j c)

-- the journal after these calls, the first one first
abbrev pub journal_after : Content → ℕ → List Call → Journal
journal_after c mark calls = fold step (blank_journal c mark) calls

-- how many instants these traces have
abbrev pub instants : List Trace → ℕ
instants traces = sum_by (λ rs. length rs) traces

-- what a call that is not refused answers, by the journal
abbrev pub Granted : Journal → Call → Answer → Type 0
Granted j (taking_in rs cells) a = a ≡ counted (length rs)
Granted j opening a = a ≡ slip j.mark
Granted j (noting s code) a = a ≡ done
Granted j (peeking s k i) a =
    a ≡ verdicts (verdict Open (coded_trace (noted j.opened)) (activator j.content k) i) (verdict Open (coded_trace (noted j.opened)) (target j.content k) i)
Granted j (closing s cells) a = a ≡ counted (length (noted j.opened))
Granted j (setting_aside s) a = a ≡ done
Granted j (reading k) a =
    (f : Figures) × (a ≡ figures (telling f (length j.traces) (instants j.traces))) × Figured (activator j.content k) (target j.content k) j.traces f

-- an answer is that of a refusal, where there is one, and else is as it should be
abbrev pub Judged : Option Refusal → Answer → Type 0 → Type 0
Judged (Some why) a P = a ≡ refused (code why)
Judged None a P = P

-- what a call answers, by the journal: the refusal that the table has for it, else what is granted
abbrev pub Answers : Journal → Call → Answer → Type 0
Answers j c a = Judged (journal_refusal j c) a (Granted j c a)
