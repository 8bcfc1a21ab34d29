-- The taking in of one trace by a new register.
use Rattle.std.proofs.Common.{◌≡◌, ℕ, ◌<◌, List, [], ◌∷◌, ◌++◌, length, get_or, drop, Some, None, Ok, Err, Option, sym, ap, ◌∙◌, subst, arith}
use Rattle.std.proofs.lemmas.List.{get_or_append_left}
use Rattle.register.specs.Answers.{of_counted}
use Rattle.register.specs.Calls.{counted, refused, unless}
use Rattle.register.specs.Contents.{Content, Trace, content, activator, target}
use Rattle.register.specs.History.{made, Asked, figures_of}
use Rattle.register.specs.Journal.{Journal, blank_journal, journal_refusal, accepted}
use Rattle.register.specs.Refusals.{code}
use Rattle.register.specs.State.{State, state, fresh, next, changed, reply, traced}
use Rattle.register.specs.Sums.{no_figures}
use Rattle.register.specs.Tallies.{Figured}
use Rattle.register.specs.declared.figures.Figures.{Figures}
use Rattle.register.specs.declared.refusal.Refusal.{Refusal}
use Rattle.register.specs.declared.register.Register.{Register}
use Rattle.sheet.specs.declared.sheet.Sheet.{Sheet}
use Rattle.logfile.specs.declared.record.Kind.{Kind}
use Rattle.report.specs.Traces.{trace_of, taking, flaw}
use Rattle.report.proofs.Flaws.{refusal_is}
use Rattle.report.proofs.Walks.{trace_few}
use Rattle.exports.specs.Taking.{figures_over, Filled}
use Rattle.exports.proofs.Replies.{Plain, granted, told}

-- what a new register holds once it has taken in a trace
pub record Took (c : Content) (rs : Trace) (s : Register) : Type 0 where
  pub flawless : flaw rs ≡ None
  pub holds : state s ≡ traced (fresh c 0) rs None
  pub figured : (k : ℕ) → k < length c.rules → Figured (activator c k) (target c k) (rs ∷ []) (figures_of s k)

plain_counted : (n : ℕ) → Plain (counted n)
plain_counted n k e = let z : ◌≡◌ {A = ℕ} 0 1 = cc in omega arith

module _ (sheet : Sheet) (kind : Kind) (body : List ℕ) (r s : Register) (new : state r ≡ fresh (content sheet) 0) where
  -- the sheet's content, and the record's trace
  abbrev c : Content
  c = content sheet

  abbrev rs : Trace
  rs = trace_of kind body

  -- what a new register refuses is a flaw
  refusal : journal_refusal (blank_journal c 0) (taking kind body) ≡ flaw rs
  refusal = refusal_is (blank_journal c 0) rs (trace_few kind body) (omega (arith, sheet.rows.ok.0, sheet.few)) (omega arith)

  reply-is : reply (state r) (taking kind body) ≡ unless (flaw rs) (λ why. refused (code why)) (counted (length rs))
  reply-is =
      ap (λ (v : State). reply v (taking kind body)) new
      ∙ ap (λ (o : Option Refusal). unless o (λ why. refused (code why)) (counted (length rs))) refusal

  pub took : (n : ℕ) → Asked r (taking kind body) s (of_counted (Ok n)) → Took (content sheet) (trace_of kind body) s
  took n asked =
      let none = (granted (flaw rs) (counted n) (counted (length rs)) (plain_counted n) (asked.answers ∙ reply-is)).0 in
      let free = refusal ∙ none in
      let law = (asked.lawful c 0 [] (made new)).after in
      record {
        flawless = none;
        holds = asked.after ∙ ap (λ (v : State). next v (taking kind body)) new
            ∙ ap (λ (o : Option Refusal). unless {X = State} o (λ _. fresh c 0) (changed (fresh c 0) (taking kind body))) free;
        figured = λ k lt.
            subst (λ (o : Option Refusal). Figured (activator c k) (target c k) (unless {X = Journal} o (λ _. blank_journal c 0) (accepted (blank_journal c 0) (taking kind body))).traces (figures_of s k)) free
            (law.tallies k lt);
      }

  pub untaken : (why : Refusal) → Asked r (taking kind body) s (of_counted (Err why)) → (w : Refusal) × (flaw (trace_of kind body) ≡ Some w) × (code why ≡ code w)
  untaken why asked = told (flaw rs) (code why) (counted (length rs)) (plain_counted (length rs)) (asked.answers ∙ reply-is)

-- The figures that are copied are those of the one trace.
pub filled : (c : Content) (rs : Trace) (s : Register) (was left : List Figures) (m : ℕ) → Took c rs s → m ≡ length c.rules
    → length (state s).held.sums ≡ length c.rules → left ≡ (state s).held.sums ++ drop m was → Filled c rs was left
filled c rs s was left m t all long e =
    let there : (state s).held.sums ≡ figures_over c rs = ap (λ (v : State). v.held.sums) t.holds in
    record {
      is = e ∙ (λ i. there i ++ drop (all i) was);
      counted = λ k lt.
          subst (λ (f : Figures). Figured (activator c k) (target c k) (rs ∷ []) f)
          (sym (ap (λ (x : List Figures). get_or x k no_figures) e ∙ get_or_append_left (state s).held.sums (drop m was) no_figures k (omega (arith, long))))
          (t.figured k lt);
    }
