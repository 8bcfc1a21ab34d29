-- Counting instants: how many there can be, and what a count of none or of some tells.
use Rattle.std.proofs.Common.{◌≡◌, ℕ, zero, suc, ◌+◌, ◌<◌, ◌≤◌, Bool, true, false, ltb, cond, ◌≢◌, sym, refl, subst, ◌∙◌, ⊎_elim, add-one, arith}
use Rattle.std.proofs.lemmas.Bool.{cases_eq, cases_Bool, and_parts, and_from, ltb-true, both_ways, false≢true}
use Rattle.std.specs.Bool.{beq}
use Rattle.std.specs.List.{fold, count_by, range_with_len}
use Rattle.std.specs.Prelude.{Decides}
use Rattle.trace.specs.Symbols.{has, bit_set}
use Rattle.evaluator.specs.Quantifiers.{In}
use Rattle.evaluator.specs.Tallies.{Valued, pair, Counted, start, one_more, no_more, Tally, Triggered}
use Rattle.evaluator.specs.declared.instants.Instants.{Instants}

module _ (P : ℕ → Type 0) where
  -- one instant more that has the property
  pub counted_one : (n c : ℕ) → Counted P n c → P (n + 1) → Counted P (n + 1) (c + 1)
  counted_one n c k p =
      let q : P (suc n) = subst P (add-one n) p in
      subst (λ m. Counted P m (c + 1)) (sym (add-one n)) (subst (λ m. Counted P (suc n) m) (sym (add-one c)) (one_more k q))

  -- one instant more that has it not
  pub counted_no : (n c : ℕ) → Counted P n c → (P (n + 1) → ⊥) → Counted P (n + 1) c
  counted_no n c k p =
      let q : P (suc n) → ⊥ = subst (λ m. P m → ⊥) (add-one n) p in
      subst (λ m. Counted P m c) (sym (add-one n)) (no_more k q)

  -- a test that decides the property counts the instants that have it, after some that are counted
  pub counted_after : (f : ℕ → Bool) → ((i : ℕ) → Decides (f i) (P i)) → (n k c : ℕ) → Counted P k c → Counted P (k + n) (fold (λ a i. a + cond (f (i + 1)) 1 0) c (range_with_len k n))
  counted_after f decides zero k c h = let same : k ≡ k + 0 = omega arith in subst (λ m. Counted P m c) same h
  counted_after f decides (suc n) k c h =
      let same : k + 1 + n ≡ k + suc n = omega arith in
      subst (λ m. Counted P m (fold (λ a i. a + cond (f (i + 1)) 1 0) c (range_with_len k (suc n)))) same (counted_after f decides n (k + 1) (c + cond (f (k + 1)) 1 0) (one (f (k + 1)) refl))
    where
      one : (b : Bool) → f (k + 1) ≡ b → Counted P (k + 1) (c + cond b 1 0)
      one true e = counted_one k c h ((decides (k + 1)).0 e)
      one false e = let same : c ≡ c + 0 = omega arith in subst (λ m. Counted P (k + 1) m) same (counted_no k c h (λ p. false≢true (sym e ∙ (decides (k + 1)).1 p)))

  -- a count of instants that are all below 64 is at most 63
  counted-small : {n c : ℕ} → ((i : ℕ) → P i → i < 64) → Counted P n c → (c ≤ n) × (c ≤ 63)
  counted-small small start = (omega arith, omega arith)
  counted-small small (one_more {n} k p) = let l = counted-small small k in let s = small (suc n) p in (omega (arith, l.0), omega (arith, l.0))
  counted-small small (no_more k p) = let l = counted-small small k in (omega (arith, l.0), l.1)

  -- a count that is not 0 has an instant
  counted-some : {n c : ℕ} → Counted P n c → 0 < c → (i : ℕ) × (1 ≤ i) × (i ≤ n) × P i
  counted-some start h = let no_way : ⊥ = omega arith in absurd no_way
  counted-some (one_more {n} k p) h = (suc n, omega arith, omega arith, p)
  counted-some (no_more k p) h = let x = counted-some k h in (x.0, x.1, omega (arith, x.2), x.3)

  -- and an instant is counted
  some-counted : {n c : ℕ} → Counted P n c → (i : ℕ) → 1 ≤ i → i ≤ n → P i → 0 < c
  some-counted start i low high p = let no_way : ⊥ = omega arith in absurd no_way
  some-counted (one_more k q) i low high p = omega arith
  some-counted (no_more {n} k q) i low high p =
      ⊎_elim
      (λ (e : i ≡ suc n). absurd (q (subst P e p)))
      (λ (e : i ≢ suc n). some-counted k i low (omega arith) p)
      (cases_eq i (suc n))

-- an instant in a set is below 64
in_small : (s : Instants) (i : ℕ) → In s i → i < 64
in_small s i h = ltb-true i 64 (and_parts (ltb i 64) (bit_set s.numbers.bits i) h).0

-- where the activator is to hold, at most 63 instants are counted
pub tally_small : (a t : Instants) (y : Bool) (n c : ℕ) → Tally a t true y n c → c ≤ 63
tally_small a t y n c k = (counted-small (λ i. In a i × Valued y (In t i)) (λ i h. in_small a i h.0) k).1

module _ (a t : Instants) (n both act : ℕ) (b : Tally a t true true n both) (c : Tally a t true false n act) where
  -- a triggered trace has an instant in one of the two tallies
  pub triggered_counts : Triggered a n → 0 < both + act
  triggered_counts x =
      ⊎_elim
      (λ (h : In t x.0). let some = some-counted (λ i. In a i × In t i) b x.0 x.1 x.2 (x.3, h) in omega arith)
      (λ (h : has t.numbers x.0 ≡ false). let some = some-counted (λ i. In a i × (In t i → ⊥)) c x.0 x.1 x.2 (x.3, both_ways (has t.numbers x.0) h) in omega arith)
      (cases_Bool (has t.numbers x.0))

  -- and the other way
  pub counts_triggered : 0 < both + act → Triggered a n
  counts_triggered l =
      ⊎_elim
      (λ (e : both ≡ 0). let x = counted-some (λ i. In a i × (In t i → ⊥)) c (omega arith) in (x.0, x.1, x.2, x.3.0))
      (λ (e : both ≢ 0). let x = counted-some (λ i. In a i × In t i) b (omega arith) in (x.0, x.1, x.2, x.3.0))
      (cases_eq both 0)

-- a test for a truth value
value_decides : (p x : Bool) → Decides (beq p x) (Valued x (p ≡ true))
value_decides true true = ((λ e. refl), λ h. refl)
value_decides true false = ((λ e. absurd (false≢true e)), λ h. absurd (h refl))
value_decides false true = ((λ e. absurd (false≢true e)), λ h. absurd (false≢true h))
value_decides false false = ((λ e h. false≢true h), λ h. refl)

-- how many of the first n instants have these truth values, counted by tests
pub tallied : (a t : Instants) (x y : Bool) (n : ℕ) → Tally a t x y n (count_by (λ k. pair a x t y (k + 1)) (range_with_len 0 n))
tallied a t x y n =
    let test : ℕ → Bool = pair a x t y in
    let P : ℕ → Type 0 = λ i. Valued x (In a i) × Valued y (In t i) in
    let decides : (i : ℕ) → Decides (test i) (P i)
    = λ i.
    let u = value_decides (has a.numbers i) x in
    let v = value_decides (has t.numbers i) y in (
      (λ e. let p = and_parts (beq (has a.numbers i) x) (beq (has t.numbers i) y) e in (u.0 p.0, v.0 p.1)),
      λ h. and_from (beq (has a.numbers i) x) (beq (has t.numbers i) y) (u.1 h.0) (v.1 h.1),
    ) in
    let all = counted_after P test decides n 0 0 start in
    let same : 0 + n ≡ n = omega arith in
    subst (λ m. Counted P m (count_by (λ k. test (k + 1)) (range_with_len 0 n))) same all
