-- The looking at an instant of the codes noted.
use Rattle.std.proofs.Common.{◌≡◌, ℕ, ◌≤◌, Bool, true, false, ◌||◌, eqb, ltb, leb, List, length, Some, None, Ok, Err, Option, Result, sym, refl, ap, ◌∙◌, subst, arith}
use Rattle.std.proofs.lemmas.Bool.Decides.{nat_tests}
use Rattle.label.specs.Labels.{verdict}
use Rattle.label.specs.declared.verdict.Verdict.{Verdict}
use Rattle.label.specs.declared.verdict.Verdict.TheVariants.{Open}
use Rattle.label.proofs.Truths.{standing}
use Rattle.register.specs.Answers.{of_verdicts}
use Rattle.register.specs.Calls.{verdicts, peeking, when, unless}
use Rattle.register.specs.Contents.{Content, activator, target, coded_trace}
use Rattle.register.specs.History.{Foresees}
use Rattle.register.specs.Refusals.{code}
use Rattle.register.specs.State.{fresh, with_open, reply}
use Rattle.register.specs.declared.refusal.Refusal.{Refusal}
use Rattle.register.specs.declared.refusal.Refusal.TheVariants.{NoInstant, NoRule}
use Rattle.register.proofs.Laws.{coded_length}
use Rattle.sheet.specs.Formulas.{Formula}
use Rattle.exports.specs.Peeking.{note_refusal, look_refusal, peek_refusal, ToldAs, Stands, Seen}
use Rattle.exports.proofs.Replies.{Plain, granted, told}

plain_verdicts : (v w : Verdict) → Plain (verdicts v w)
plain_verdicts v w k e = let z : ◌≡◌ {A = ℕ} 0 1 = cc in omega arith

-- An instant that can be looked at is one of the trace.
inside : (b : Bool) (n i : ℕ) → when b NoRule (when (eqb i 0 || ltb n i) NoInstant None) ≡ None → (1 ≤ i) × (i ≤ n)
inside true n i e = let z : ◌≡◌ {A = ℕ} 0 1 = cc in absurd (omega arith)
inside false n i e = go (eqb i 0 || ltb n i) refl e
  where
    go : (z : Bool) → (eqb i 0 || ltb n i) ≡ z → when z NoInstant None ≡ None → (1 ≤ i) × (i ≤ n)
    go true f g = let z : ◌≡◌ {A = ℕ} 0 1 = cc in absurd (omega arith)
    go false f g = let low : 1 ≤ i = grind (arith, nat_tests) in let high : i ≤ n = grind (arith, nat_tests) in (low, high)

-- The standing verdict at such an instant is final.
stands : (f : Formula) (codes : List ℕ) (i : ℕ) (v : Verdict) → (1 ≤ i) × (i ≤ length codes) → v ≡ verdict Open (coded_trace codes) f i → Stands f codes i v
stands f codes i v within e =
    let long : i ≤ length (coded_trace codes) = omega (arith, coded_length codes, within.1) in
    record { is = e; final = subst (λ (x : Verdict). Foresees x f (coded_trace codes) i) (sym e) (λ more. standing (coded_trace codes) more f i within.0 long) }

module _ (c : Content) (codes : List ℕ) (k i : ℕ) where
  -- Codes that are all noted leave the looking.
  pub seen : note_refusal 0 codes ≡ None → (a : Result (Verdict × Verdict) Refusal)
      → of_verdicts a ≡ reply (with_open (fresh c 0) (Some codes)) (peeking 0 k i) → Seen c codes k i a
  seen none (Ok p) e =
      let first : Verdict = verdict Open (coded_trace codes) (activator c k) i in
      let second : Verdict = verdict Open (coded_trace codes) (target c k) i in
      let g = granted (look_refusal c (length codes) k i) (verdicts p.0 p.1) (verdicts first second) (plain_verdicts p.0 p.1) e in
      let both = g.1 in
      let act : p.0 ≡ first = cc in
      let tgt : p.1 ≡ second = cc in
      let within = inside (leb (length c.rules) k) (length codes) i g.0 in (
        ap (λ (o : Option Refusal). unless o (λ why. Some why) (look_refusal c (length codes) k i)) none ∙ g.0,
        stands (activator c k) codes i p.0 within act,
        stands (target c k) codes i p.1 within tgt,
      )
  seen none (Err why) e =
      let first : Verdict = verdict Open (coded_trace codes) (activator c k) i in
      let second : Verdict = verdict Open (coded_trace codes) (target c k) i in
      let t = told (look_refusal c (length codes) k i) (code why) (verdicts first second) (plain_verdicts first second) e in
      (t.0, ap (λ (o : Option Refusal). unless o (λ w. Some w) (look_refusal c (length codes) k i)) none ∙ t.1, t.2)

  -- A code that is refused is what is told.
  pub unnoted : (why : Refusal) → ToldAs why (note_refusal 0 codes) → ToldAs why (peek_refusal c codes k i)
  unnoted why t = (t.0, ap (λ (o : Option Refusal). unless o (λ w. Some w) (look_refusal c (length codes) k i)) t.1, t.2)
