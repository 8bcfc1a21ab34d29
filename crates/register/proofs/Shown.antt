-- What a register holds after a history is the summary of the journal after it.
use Rattle.std.proofs.Common.{◌≡◌, ℕ, Bool, true, false, leb, List, [], ◌∷◌, ◌++◌, map, length, Some, None, sum_by, Option, sym, refl, ap, ◌∙◌, ap₂}
use Rattle.std.proofs.lemmas.List.Sums.{sum_by_push, fold_push}
use Rattle.std.proofs.lemmas.List.{length-append, get_or-map}
use Rattle.std.proofs.lemmas.Bool.{leb-false}
use Rattle.sheet.specs.declared.row.Row.{Row}
use Rattle.sheet.specs.declared.row.Rule.{Rule}
use Rattle.register.specs.Calls.{Call, taking_in, opening, noting, peeking, closing, setting_aside, reading, Answer, refused, figures, noted, when, unless}
use Rattle.register.specs.Contents.{Content, Trace, activator, target, coded_trace, rule_at}
use Rattle.register.specs.History.{History, made, asked}
use Rattle.register.specs.Journal.{Journal, journal_refusal, accepted, step, journal_after, instants, Granted, Answers, Judged}
use Rattle.register.specs.Refusals.{code}
use Rattle.register.specs.State.{State, state, next, reply, changed, given, with_trace}
use Rattle.register.specs.Sums.{no_figures, own, plus, added, telling}
use Rattle.register.specs.Tallies.{Figured}
use Rattle.register.specs.declared.figures.Figures.{Figures}
use Rattle.register.specs.declared.refusal.Refusal.{Refusal}
use Rattle.register.specs.declared.refusal.Refusal.TheVariants.{NoRule}
use Rattle.register.specs.declared.register.Register.{Register}
use Rattle.register.proofs.Owned.{own_both, own_act, own_tgt, own_none, own_trigger, own_degree}
use Rattle.register.proofs.Truths.{totalled}

-- a rule's figures over traces, each by its settled labels
abbrev pub total : List Row → List Trace → Rule → Figures
total rows ts rule = record {
  both = sum_by (λ t. (own rows t rule).both) ts;
  act = sum_by (λ t. (own rows t rule).act) ts;
  tgt = sum_by (λ t. (own rows t rule).tgt) ts;
  none = sum_by (λ t. (own rows t rule).none) ts;
  triggered = sum_by (λ t. (own rows t rule).triggered) ts;
  degrees = sum_by (λ t. (own rows t rule).degrees) ts;
}

-- the state that the journal tells
abbrev pub summary : Journal → State
summary j = record {
  mark = j.mark;
  opened = j.opened;
  held = record {
    content = j.content;
    traces = length j.traces;
    instants = instants j.traces;
    sums = map (total j.content.rows j.traces) j.content.rules;
  };
}

-- they are counted over truth
pub total_figured : (c : Content) (ts : List Trace) (k : ℕ)
    → Figured (activator c k) (target c k) ts (total c.rows ts (rule_at c k))
total_figured c ts k =
    let rule : Rule = rule_at c k in
    record {
      both = totalled _ _ (λ t. own_both c.rows t rule) ts;
      act = totalled _ _ (λ t. own_act c.rows t rule) ts;
      tgt = totalled _ _ (λ t. own_tgt c.rows t rule) ts;
      none = totalled _ _ (λ t. own_none c.rows t rule) ts;
      triggered = totalled _ _ (λ t. own_trigger c.rows t rule) ts;
      degrees = totalled _ _ (λ t. own_degree c.rows t rule) ts;
    }

-- with one more trace
pub total_push : (rows : List Row) (ts : List Trace) (t : Trace) (rule : Rule)
    → total rows (ts ++ (t ∷ [])) rule ≡ plus (total rows ts rule) (own rows t rule)
total_push rows ts t rule =
    λ i. record {
      both = sum_by_push (λ x. (own rows x rule).both) ts t i;
      act = sum_by_push (λ x. (own rows x rule).act) ts t i;
      tgt = sum_by_push (λ x. (own rows x rule).tgt) ts t i;
      none = sum_by_push (λ x. (own rows x rule).none) ts t i;
      triggered = sum_by_push (λ x. (own rows x rule).triggered) ts t i;
      degrees = sum_by_push (λ x. (own rows x rule).degrees) ts t i;
    }

-- the same of each rule
pub added_total : (rows : List Row) (rules : List Rule) (ts : List Trace) (t : Trace)
    → added (own rows t) rules (map (total rows ts) rules) ≡ map (total rows (ts ++ (t ∷ []))) rules
added_total rows [] ts t = refl
added_total rows (rule ∷ rules) ts t = ap₂ ◌∷◌ (sym (total_push rows ts t rule)) (added_total rows rules ts t)

-- the summary with one more trace
pub with_trace_sums : (j : Journal) (t : Trace) (o : Option (List ℕ))
    → summary (record { content = j.content; mark = j.mark; traces = j.traces ++ (t ∷ []); opened = o })
    ≡ record { mark = j.mark; opened = o; held = with_trace (summary j).held t }
with_trace_sums j t o =
    λ i. record {
      mark = j.mark;
      opened = o;
      held = record {
        content = j.content;
        traces = length-append j.traces (t ∷ []) i;
        instants = sum_by_push (λ x. length x) j.traces t i;
        sums = sym (added_total j.content.rows j.content.rules j.traces t) i;
      };
    }

-- what a call makes of the summary is the summary of what it makes of the journal
accepted_sums : (j : Journal) (c : Call) → summary (accepted j c) ≡ changed (summary j) c
accepted_sums j (taking_in rs cells) = with_trace_sums j rs j.opened
accepted_sums j opening = refl
accepted_sums j (noting s code) = refl
accepted_sums j (peeking s k i) = refl
accepted_sums j (closing s cells) = with_trace_sums j (coded_trace (noted j.opened)) None
accepted_sums j (setting_aside s) = refl
accepted_sums j (reading k) = refl

-- refused or not
pub step_sums : (j : Journal) (c : Call) → summary (step j c) ≡ next (summary j) c
step_sums j c = go (journal_refusal j c)
  where
    go : (o : Option Refusal)
        → summary (unless o (λ _. j) (accepted j c)) ≡ unless o (λ _. summary j) (changed (summary j) c)
    go (Some r) = refl
    go None = accepted_sums j c

-- an answer by the state, where nothing is read, is the journal's
plainly : (o : Option Refusal) (a : Answer) (P : Answer → Type 0) → P a
    → Judged o (unless o (λ why. refused (code why)) a) (P (unless o (λ why. refused (code why)) a))
plainly (Some why) a P h = refl
plainly None a P h = h

-- what is read of a rule
read_told : (j : Journal) (k : ℕ) (b : Bool) → leb (length j.content.rules) k ≡ b
    → Judged (when b NoRule None) (unless (when b NoRule None) (λ why. refused (code why)) (given (summary j) (reading k)))
    (Granted j (reading k) (unless (when b NoRule None) (λ why. refused (code why)) (given (summary j) (reading k))))
read_told j k true e = refl
read_told j k false e = (
  total j.content.rows j.traces (rule_at j.content k),
  ap (λ f. figures (telling f (length j.traces) (instants j.traces)))
      (get_or-map (total j.content.rows j.traces) j.content.rules k _ no_figures (leb-false _ _ e)),
  total_figured j.content j.traces k,
)

-- the state's reply is the journal's answer
pub step_answer : (j : Journal) (c : Call) → Answers j c (reply (summary j) c)
step_answer j (taking_in rs cells) = plainly (journal_refusal j (taking_in rs cells)) _ (Granted j (taking_in rs cells)) refl
step_answer j opening = plainly (journal_refusal j opening) _ (Granted j opening) refl
step_answer j (noting s code) = plainly (journal_refusal j (noting s code)) _ (Granted j (noting s code)) refl
step_answer j (peeking s k i) = plainly (journal_refusal j (peeking s k i)) _ (Granted j (peeking s k i)) refl
step_answer j (closing s cells) = plainly (journal_refusal j (closing s cells)) _ (Granted j (closing s cells)) refl
step_answer j (setting_aside s) = plainly (journal_refusal j (setting_aside s)) _ (Granted j (setting_aside s)) refl
step_answer j (reading k) = read_told j k (leb (length j.content.rules) k) refl

-- after every history the register's state is the journal's summary
pub shown : {c : Content} {mark : ℕ} {calls : List Call} {r : Register}
    → History c mark calls r → state r ≡ summary (journal_after c mark calls)
shown (made e) = e
shown {c} {mark} (asked {calls = calls} call h e) =
    e ∙ ap (λ v. next v call) (shown h) ∙ sym (step_sums (journal_after c mark calls) call)
    ∙ ap summary (sym (fold_push step _ calls call))
