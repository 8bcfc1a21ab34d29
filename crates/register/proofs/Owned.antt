-- The figures of one trace by its settled labels: they are counts over truth, and those of the mirrored rows on the reversed
-- trace.
use Rattle.std.proofs.Common.{◌≡◌, ℕ, ◌+◌, ◌-◌, ◌*◌, ◌/◌, ◌<◌, ◌≤◌, Bool, true, false, cond, ◌&&◌, ltb, ◌↔◌, List, map, reverse, length, sym, refl, ap, ◌∙◌, subst, inl, inr, arith}
use Rattle.std.proofs.lemmas.List.{length-reverse}
use Rattle.std.proofs.lemmas.Bool.Decides.{nat_tests}
use Rattle.label.specs.Labels.{label_at}
use Rattle.label.specs.Theorems.{Tells}
use Rattle.label.specs.Truth.{Holds}
use Rattle.label.specs.declared.verdict.Verdict.{Verdict}
use Rattle.label.specs.declared.verdict.Verdict.TheVariants.{No, Open, Yes}
use Rattle.label.proofs.Flips.{mirrored_labels}
use Rattle.label.proofs.Truths.{settled}
use Rattle.sheet.specs.Rows.{mirror_row}
use Rattle.sheet.specs.Sheets.{formula}
use Rattle.sheet.specs.declared.row.Row.{Row}
use Rattle.sheet.specs.declared.row.Rule.{Rule}
use Rattle.register.specs.Bounds.{Within}
use Rattle.register.specs.Contents.{Trace}
use Rattle.register.specs.Limits.{millionths}
use Rattle.register.specs.Sums.{yes, count, tallied, graded, own}
use Rattle.register.specs.Tallies.{Valued, Tally, Triggered, Trigger, Degree}
use Rattle.register.proofs.Counts.{Agree, count_split, count_some, some_count, tallied_flip, degree_full, degree_le, graded_within}
use Rattle.register.proofs.Truths.{Reflects, counted, counted_once, same, pair_valued}

-- a verdict that is not open tells whether P holds
told : (v : Verdict) (P : Type 0) → Tells v P → (v ≡ Open → ⊥) → Valued (yes v) P
told No P h n = h
told Open P h n = absurd (n refl)
told Yes P h n = h

-- the settled labels of a row tell the truth of its formula
label_reflects : (rows : List Row) (rs : Trace) (r : ℕ)
    → Reflects (length rs) (λ i. yes (label_at No rs rows i r)) (λ i. Holds rs (formula rows r) i)
label_reflects rows rs r i low high =
    let s = settled rs (formula rows r) i low high in told (label_at No rs rows i r) (Holds rs (formula rows r) i) s.0 s.1

-- the test of a rule's activator
abbrev acts : List Row → Trace → Rule → ℕ → Bool
acts rows rs rule i = yes (label_at No rs rows i rule.activator)

-- the test of its target
abbrev meets : List Row → Trace → Rule → ℕ → Bool
meets rows rs rule i = yes (label_at No rs rows i rule.target)

-- a pair of truth values by the labels
pair_reflects : (rows : List Row) (rs : Trace) (rule : Rule) (x y : Bool)
    → Reflects (length rs) (λ i. same x (acts rows rs rule i) && same y (meets rows rs rule i))
    (λ i. Valued x (Holds rs (formula rows rule.activator) i) × Valued y (Holds rs (formula rows rule.target) i))
pair_reflects rows rs rule x y i low high =
    pair_valued x y (acts rows rs rule i) (meets rows rs rule i)
    (Holds rs (formula rows rule.activator) i) (Holds rs (formula rows rule.target) i)
    (label_reflects rows rs rule.activator i low high) (label_reflects rows rs rule.target i low high)

-- the tally of a pair of truth values
pair_tally : (rows : List Row) (rs : Trace) (rule : Rule) (x y : Bool)
    → Tally (formula rows rule.activator) (formula rows rule.target) x y rs
    (count (λ i. same x (acts rows rs rule i) && same y (meets rows rs rule i)) (length rs))
pair_tally rows rs rule x y =
    counted (length rs) (λ i. same x (acts rows rs rule i) && same y (meets rows rs rule i)) _ (pair_reflects rows rs rule x y)

-- the tally of both
pub own_both : (rows : List Row) (rs : Trace) (rule : Rule)
    → Tally (formula rows rule.activator) (formula rows rule.target) true true rs (own rows rs rule).both
unfolding own
own_both rows rs rule = pair_tally rows rs rule true true

-- of the activator alone
pub own_act : (rows : List Row) (rs : Trace) (rule : Rule)
    → Tally (formula rows rule.activator) (formula rows rule.target) true false rs (own rows rs rule).act
unfolding own
own_act rows rs rule = pair_tally rows rs rule true false

-- of the target alone
pub own_tgt : (rows : List Row) (rs : Trace) (rule : Rule)
    → Tally (formula rows rule.activator) (formula rows rule.target) false true rs (own rows rs rule).tgt
unfolding own
own_tgt rows rs rule = pair_tally rows rs rule false true

-- of neither
pub own_none : (rows : List Row) (rs : Trace) (rule : Rule)
    → Tally (formula rows rule.activator) (formula rows rule.target) false false rs (own rows rs rule).none
unfolding own
own_none rows rs rule = pair_tally rows rs rule false false

-- both and act together are where the activator holds
held_count : (rows : List Row) (rs : Trace) (rule : Rule)
    → (own rows rs rule).both + (own rows rs rule).act ≡ count (acts rows rs rule) (length rs)
unfolding own
held_count rows rs rule = sym (count_split (length rs) (acts rows rs rule) (meets rows rs rule))

-- a trace is triggered where that is not 0
triggered_held : (rows : List Row) (rs : Trace) (rule : Rule)
    → 0 < (own rows rs rule).both + (own rows rs rule).act → Triggered (formula rows rule.activator) rs
triggered_held rows rs rule h =
    let x = count_some (length rs) (acts rows rs rule) (subst (λ n. 0 < n) (held_count rows rs rule) h) in (
      x.0,
      x.1,
      x.2,
      subst (λ b. Valued b (Holds rs (formula rows rule.activator) x.0)) x.3
          (label_reflects rows rs rule.activator x.0 x.1 x.2),
    )

-- and only there
held_triggered : (rows : List Row) (rs : Trace) (rule : Rule)
    → Triggered (formula rows rule.activator) rs → 0 < (own rows rs rule).both + (own rows rs rule).act
held_triggered rows rs rule t =
    subst (λ n. 0 < n) (sym (held_count rows rs rule))
    (some_count (length rs) (acts rows rs rule) t.0 t.1 t.2
    (go (acts rows rs rule t.0) (label_reflects rows rs rule.activator t.0 t.1 t.2)))
  where
    go : (b : Bool) → Valued b (Holds rs (formula rows rule.activator) t.0) → b ≡ true
    go true v = refl
    go false v = absurd (v t.3)

-- the trigger, by the tallies
trigger_is : (rows : List Row) (rs : Trace) (rule : Rule)
    → (own rows rs rule).triggered ≡ cond (ltb 0 ((own rows rs rule).both + (own rows rs rule).act)) 1 0
unfolding own
trigger_is rows rs rule = refl

-- the degree, by the tallies
degree_is : (rows : List Row) (rs : Trace) (rule : Rule)
    → (own rows rs rule).degrees
    ≡ cond (ltb 0 ((own rows rs rule).both + (own rows rs rule).act))
    ((own rows rs rule).both * millionths / ((own rows rs rule).both + (own rows rs rule).act)) 0
unfolding own
degree_is rows rs rule = refl

-- the trigger of a trace
pub own_trigger : (rows : List Row) (rs : Trace) (rule : Rule)
    → Trigger (formula rows rule.activator) rs (own rows rs rule).triggered
own_trigger rows rs rule = go (ltb 0 held) refl
  where
    held : ℕ
    held = (own rows rs rule).both + (own rows rs rule).act

    go : (b : Bool) → ltb 0 ((own rows rs rule).both + (own rows rs rule).act) ≡ b
        → Trigger (formula rows rule.activator) rs (own rows rs rule).triggered
    go true e =
        inl (triggered_held rows rs rule (grind (arith, nat_tests)), trigger_is rows rs rule ∙ ap (λ b. cond b 1 0) e)
    go false e =
        inr (
          (λ t. let some = held_triggered rows rs rule t in let none : (own rows rs rule).both + (own rows rs rule).act ≤ 0 = grind (arith, nat_tests) in omega arith),
          trigger_is rows rs rule ∙ ap (λ b. cond b 1 0) e,
        )

-- the degree of a trace
pub own_degree : (rows : List Row) (rs : Trace) (rule : Rule)
    → Degree (formula rows rule.activator) (formula rows rule.target) rs (own rows rs rule).degrees
own_degree rows rs rule = record {
  both = (own rows rs rule).both;
  act = (own rows rs rule).act;
  both_counted = own_both rows rs rule;
  act_counted = own_act rows rs rule;
  triggered = λ t.
      let some = held_triggered rows rs rule t in
      let yes-held : ltb 0 ((own rows rs rule).both + (own rows rs rule).act) ≡ true = grind (arith, nat_tests) in
      degree_is rows rs rule
      ∙ ap (λ b. cond b ((own rows rs rule).both * millionths / ((own rows rs rule).both + (own rows rs rule).act)) 0) yes-held;
  untriggered = λ n.
      degree_is rows rs rule ∙ go n (ltb 0 ((own rows rs rule).both + (own rows rs rule).act)) refl;
}
  where
    go : (Triggered (formula rows rule.activator) rs → ⊥) → (b : Bool)
        → ltb 0 ((own rows rs rule).both + (own rows rs rule).act) ≡ b
        → cond b ((own rows rs rule).both * millionths / ((own rows rs rule).both + (own rows rs rule).act)) 0 ≡ 0
    go n true e = absurd (n (triggered_held rows rs rule (grind (arith, nat_tests))))
    go n false e = refl

-- the degree is at most a whole
pub own_degree_le : (rows : List Row) (rs : Trace) (rule : Rule) → (own rows rs rule).degrees ≤ millionths
unfolding own
own_degree_le rows rs rule = degree_le (tallied (acts rows rs rule) (meets rows rs rule) (length rs))

-- and a whole exactly where the trace is triggered and its activator never holds alone
full_is : (rows : List Row) (rs : Trace) (rule : Rule)
    → ((own rows rs rule).degrees ≡ millionths) ↔ ((0 < (own rows rs rule).both + (own rows rs rule).act) × ((own rows rs rule).act ≡ 0))
unfolding own
full_is rows rs rule = degree_full (tallied (acts rows rs rule) (meets rows rs rule) (length rs))

-- the tally of act is unique
act_once : (rows : List Row) (rs : Trace) (rule : Rule) (n : ℕ)
    → Tally (formula rows rule.activator) (formula rows rule.target) true false rs n → n ≡ (own rows rs rule).act
unfolding own
act_once rows rs rule n c =
    counted_once (λ i. same true (acts rows rs rule i) && same false (meets rows rs rule i)) _ (length rs) n c
    (pair_reflects rows rs rule true false)

-- a full degree, in the words of truth
pub own_full : (rows : List Row) (rs : Trace) (rule : Rule)
    → ((own rows rs rule).degrees ≡ millionths)
    ↔ (Triggered (formula rows rule.activator) rs × Tally (formula rows rule.activator) (formula rows rule.target) true false rs 0)
own_full rows rs rule = (
  (λ e.
      let h = (full_is rows rs rule).0 e in (
        triggered_held rows rs rule h.0,
        subst (λ n. Tally (formula rows rule.activator) (formula rows rule.target) true false rs n) h.1 (own_act rows rs rule),
      )),
  λ h. (full_is rows rs rule).1 (held_triggered rows rs rule h.0, sym (act_once rows rs rule 0 h.1)),
)

-- the figures of a trace are within its length
pub own_within : (rows : List Row) (rs : Trace) (rule : Rule) → Within 1 (length rs) (own rows rs rule)
unfolding own
own_within rows rs rule = graded_within (acts rows rs rule) (meets rows rs rule) (length rs)

-- a row's label on the reversed trace
label_mirror : (rows : List Row) (rs : Trace) (r : ℕ)
    → Agree (length rs) (λ i. yes (label_at No (reverse rs) (map mirror_row rows) i r)) (λ i. yes (label_at No rs rows (length rs + 1 - i) r))
label_mirror rows rs r i low high =
    let j : ℕ = length rs + 1 - i in
    let back : length rs - j + 1 ≡ i = omega arith in
    ap yes
    (ap (λ k. label_at No (reverse rs) (map mirror_row rows) k r) (sym back)
    ∙ mirrored_labels rs rows r j (omega arith) (omega arith))

-- the figures of the mirrored rows on the reversed trace
pub own_mirror : (rows : List Row) (rs : Trace) (rule : Rule) → own (map mirror_row rows) (reverse rs) rule ≡ own rows rs rule
unfolding own
own_mirror rows rs rule =
    ap (λ n. graded (tallied (acts (map mirror_row rows) (reverse rs) rule) (meets (map mirror_row rows) (reverse rs) rule) n)) (length-reverse rs)
    ∙ ap graded
    (tallied_flip (length rs) (acts rows rs rule) (meets rows rs rule) (acts (map mirror_row rows) (reverse rs) rule) (meets (map mirror_row rows) (reverse rs) rule)
    (label_mirror rows rs rule.activator) (label_mirror rows rs rule.target))
