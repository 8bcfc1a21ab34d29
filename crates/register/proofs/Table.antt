-- The table of refusals at the calls that add a trace.
use Rattle.std.proofs.Common.{◌≡◌, ℕ, ◌*◌, ◌<◌, ◌≤◌, Bool, true, false, cond, eqb, ltb, leb, length, Some, None, Ok, Err, vec_items, Option, Result, sym, refl, ap, ◌∙◌, arith}
use Rattle.std.proofs.lemmas.Bool.{eq-eqb, ne_eqb, lt-leb, le-ltb, leb-true}
use Rattle.label.specs.Strips.{label_answer}
use Rattle.label.specs.declared.refusal.Refusal as label
use Rattle.label.specs.declared.refusal.Refusal.TheVariants as labels
use Rattle.trace.specs.Unreadable.{first_unreadable}
use Rattle.trace.specs.declared.unreadable.UnreadableInstant.{UnreadableInstant}
use Rattle.register.specs.Answers.{of_counted}
use Rattle.register.specs.Calls.{counted, taking_in, closing, room, unreadable, unless, wrong, noted}
use Rattle.register.specs.Contents.{Trace}
use Rattle.register.specs.History.{Asked}
use Rattle.register.specs.Limits.{max_traces}
use Rattle.register.specs.State.{state, state_refusal, held, add_answer, held_after}
use Rattle.register.specs.declared.refusal.Refusal.{Refusal}
use Rattle.register.specs.declared.refusal.Refusal.TheVariants.{Blank, Unreadable, WrongSlip, Full, ShortStrip}
use Rattle.register.specs.declared.register.Register.{Register}
use Rattle.register.proofs.Laws.{refuses, accepts, when_yes, when_no}

-- what labelling accepts has room
pub room_left : (traces cells n k m x : ℕ) → traces < max_traces → ◌≡◌ {A = Result ℕ label.Refusal} (Ok x) (label_answer n k cells) → k ≡ m
    → (room traces cells n m ≡ None) × (x ≡ n) × (n * k ≤ cells)
room_left traces cells n k m x lt e km = go (leb (n * k) cells) refl e
  where
    go : (b : Bool) → leb (n * k) cells ≡ b → ◌≡◌ {A = Result ℕ label.Refusal} (Ok x) (cond b (Ok n) (Err labels.ShortStrip))
        → (room traces cells n m ≡ None) × (x ≡ n) × (n * k ≤ cells)
    go true h f = (
      when_no (leb max_traces traces) Full _ (lt-leb max_traces traces lt)
          ∙ when_no (ltb cells (n * m)) ShortStrip None (ap (λ z. ltb cells (n * z)) (sym km) ∙ le-ltb cells (n * k) (leb-true (n * k) cells h)),
      cc,
      leb-true (n * k) cells h,
    )
    go false h f = let z : ◌≡◌ {A = ℕ} 0 1 = cc in let no_way : ⊥ = omega arith in absurd no_way

-- an accepted trace was not refused
pub add_ok : (o : Option Refusal) (n len : ℕ) → ◌≡◌ {A = Result ℕ Refusal} (Ok n) (unless o (λ why. Err why) (Ok len)) → (o ≡ None) × (n ≡ len)
add_ok (Some why) n len e = let z : ◌≡◌ {A = ℕ} 0 1 = cc in let no_way : ⊥ = omega arith in absurd no_way
add_ok None n len e = (refl, cc)

-- and a refused one was
pub add_err : (o : Option Refusal) (why : Refusal) (len : ℕ) → ◌≡◌ {A = Result ℕ Refusal} (Err why) (unless o (λ x. Err x) (Ok len)) → o ≡ Some why
add_err (Some x) why len e = cc
add_err None why len e = let z : ◌≡◌ {A = ℕ} 0 1 = cc in let no_way : ⊥ = omega arith in absurd no_way

module _ (r : Register) (cells : ℕ) where
  -- taking in a trace with no instant
  pub taking_blank : (rs : Trace) → length rs ≡ 0 → state_refusal (state r) (taking_in rs cells) ≡ Some Blank
  taking_blank rs e = when_yes (eqb (length rs) 0) Blank _ (eq-eqb (length rs) 0 e)

  -- with an unreadable one
  pub taking_fault : (rs : Trace) (u : UnreadableInstant) → (length rs ≡ 0 → ⊥) → Some u ≡ first_unreadable 1 rs
      → state_refusal (state r) (taking_in rs cells) ≡ Some (Unreadable u)
  taking_fault rs u ne e =
      when_no (eqb (length rs) 0) Blank _ (ne_eqb (length rs) 0 ne)
      ∙ ap (λ o. unreadable o (room r.totals.traces cells (length rs) (length (vec_items r.totals.sheet.rows)))) (sym e)

  -- and with instants that can all be read
  pub taking_room : (rs : Trace) → (length rs ≡ 0 → ⊥) → None ≡ first_unreadable 1 rs
      → state_refusal (state r) (taking_in rs cells) ≡ room r.totals.traces cells (length rs) (length (vec_items r.totals.sheet.rows))
  taking_room rs ne e =
      when_no (eqb (length rs) 0) Blank _ (ne_eqb (length rs) 0 ne)
      ∙ ap (λ o. unreadable o (room r.totals.traces cells (length rs) (length (vec_items r.totals.sheet.rows)))) (sym e)

  -- closing a trace with no instant
  pub closing_blank : (s : ℕ) → wrong r.mark s (state r).opened ≡ false → length (noted (state r).opened) ≡ 0
      → state_refusal (state r) (closing s cells) ≡ Some Blank
  closing_blank s w e =
      when_no (wrong r.mark s (state r).opened) WrongSlip _ w
      ∙ when_yes (eqb (length (noted (state r).opened)) 0) Blank _ (eq-eqb (length (noted (state r).opened)) 0 e)

  -- and with some
  pub closing_room : (s n : ℕ) → wrong r.mark s (state r).opened ≡ false → (n ≡ 0 → ⊥) → n ≡ length (noted (state r).opened)
      → state_refusal (state r) (closing s cells) ≡ room r.totals.traces cells n (length (vec_items r.totals.sheet.rows))
  closing_room s n w ne e =
      when_no (wrong r.mark s (state r).opened) WrongSlip _ w
      ∙ when_no (eqb (length (noted (state r).opened)) 0) Blank _ (ne_eqb (length (noted (state r).opened)) 0 (λ z. ne (e ∙ z)))
      ∙ ap (λ x. room r.totals.traces cells x (length (vec_items r.totals.sheet.rows))) (sym e)

-- the call of take in, where every instant can be read: all else is the answer of the totals
pub taken : (r s : Register) (cells : ℕ) (rs : Trace) (o : Result ℕ Refusal) → (length rs ≡ 0 → ⊥) → None ≡ first_unreadable 1 rs
    → o ≡ add_answer (held r.totals) (length rs) cells
    → state s ≡ record { mark = r.mark; opened = (state r).opened; held = held_after o (held r.totals) rs }
    → Asked r (taking_in rs cells) s (of_counted o)
taken r s cells rs (Ok n) ne e answer after =
    let done = add_ok _ n _ answer in
    accepts r (taking_in rs cells) s (counted n) (taking_room r cells rs ne e ∙ done.0) after (ap counted done.1)
taken r s cells rs (Err why) ne e answer after =
    refuses r (taking_in rs cells) s why (taking_room r cells rs ne e ∙ add_err _ why _ answer) after
