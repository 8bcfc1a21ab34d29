-- When a verdict counts as holding, where open counts as a test says: of the algebra of verdicts, and of until and since.
use Rattle.std.proofs.Common.{◌≡◌, ℕ, zero, suc, ◌+◌, ◌≤◌, Bool, true, false, not, ◌&&◌, ◌||◌, ◌≢◌, ◌⊎◌, ◌↔◌, sym, refl, ap, ◌∙◌, subst, inl, inr, ⊎_elim, arith}
use Rattle.std.proofs.lemmas.Bool.{cases_eq, and_parts, and_from, or_cases, or_left, or_right, false≢true}
use Rattle.label.specs.Labels.{until_from, since_to}
use Rattle.label.specs.Verdicts.{lower, higher, swapped, yes_if}
use Rattle.label.specs.declared.verdict.Verdict.{Verdict}
use Rattle.label.specs.declared.verdict.Verdict.TheVariants.{No, Open, Yes}
use Rattle.evaluator.specs.Quantifiers.{AllIn, UntilAt, SinceAt}
use Rattle.evaluator.specs.Standing.{counts}

-- the lower of two counts where both do
counts_lower : (y : Bool) (u v : Verdict) → counts y (lower u v) ≡ (counts y u && counts y v)
counts_lower y No v = refl
counts_lower true Open No = refl
counts_lower true Open Open = refl
counts_lower true Open Yes = refl
counts_lower false Open No = refl
counts_lower false Open Open = refl
counts_lower false Open Yes = refl
counts_lower y Yes v = refl

-- the higher of two counts where one does
counts_higher : (y : Bool) (u v : Verdict) → counts y (higher u v) ≡ (counts y u || counts y v)
counts_higher y No v = refl
counts_higher true Open No = refl
counts_higher true Open Open = refl
counts_higher true Open Yes = refl
counts_higher false Open No = refl
counts_higher false Open Open = refl
counts_higher false Open Yes = refl
counts_higher y Yes v = refl

-- the test of a symbol counts where it passes
pub counts_flag : (y b : Bool) → counts y (yes_if b) ≡ b
counts_flag y true = refl
counts_flag y false = refl

-- not counts where its operand, with open counted the other way, does not
pub counts_not : (y : Bool) (v : Verdict) → (counts (not y) v ≡ true → ⊥) ↔ (counts y (swapped v) ≡ true)
counts_not y No = ((λ h. refl), λ h e. false≢true e)
counts_not true Open = ((λ h. refl), λ h e. false≢true e)
counts_not false Open = ((λ h. absurd (h refl)), λ h e. false≢true h)
counts_not y Yes = ((λ h. absurd (h refl)), λ h e. false≢true h)

-- and
pub counts_and : (y : Bool) (u v : Verdict) → ((counts y u ≡ true) × (counts y v ≡ true)) ↔ (counts y (lower u v) ≡ true)
counts_and y u v = ((λ h. counts_lower y u v ∙ and_from (counts y u) (counts y v) h.0 h.1), λ h. and_parts (counts y u) (counts y v) (sym (counts_lower y u v) ∙ h))

-- or
pub counts_or : (y : Bool) (u v : Verdict) → ((counts y u ≡ true) ⊎ (counts y v ≡ true)) ↔ (counts y (higher u v) ≡ true)
counts_or y u v = (
  (λ h. counts_higher y u v ∙ ⊎_elim (or_left (counts y u) (counts y v)) (or_right (counts y u) (counts y v)) h),
  λ h. or_cases (counts y u) (counts y v) (sym (counts_higher y u v) ∙ h),
)

-- a yes counts where open does not
pub counts_yes : (v : Verdict) → (counts false v ≡ true) ↔ (v ≡ Yes)
counts_yes No = ((λ h. absurd (false≢true h)), λ h. ap (counts false) h)
counts_yes Open = ((λ h. absurd (false≢true h)), λ h. ap (counts false) h)
counts_yes Yes = ((λ h. refl), λ h. refl)

-- all but a no counts where open does
pub counts_maybe : (v : Verdict) → (counts true v ≡ true) ↔ (v ≡ No → ⊥)
counts_maybe No = ((λ h e. false≢true h), λ h. absurd (h refl))
counts_maybe Open = ((λ h e. false≢true (sym (ap (counts true) e))), λ h. refl)
counts_maybe Yes = ((λ h e. false≢true (sym (ap (counts true) e))), λ h. refl)

module _ (y : Bool) (a b : ℕ → Verdict) where
  -- the first side counts
  abbrev A : ℕ → Type 0
  A i = counts y (a i) ≡ true

  -- the second side counts
  abbrev B : ℕ → Type 0
  B i = counts y (b i) ≡ true

  -- one side here, and the other side with what a neighbour gives
  here : (i : ℕ) (near : Verdict) (N : Type 0) → (N ↔ (counts y near ≡ true)) → (B i ⊎ (A i × N)) ↔ (counts y (higher (b i) (lower (a i) near)) ≡ true)
  here i near N same = (
    (λ h. (counts_or y (b i) (lower (a i) near)).0 (⊎_elim (λ (x : B i). inl x) (λ (x : A i × N). inr ((counts_and y (a i) near).0 (x.0, same.0 x.1))) h)),
    λ h.
        ⊎_elim
        (λ (x : B i). inl x)
        (λ (x : counts y (lower (a i) near) ≡ true). let p = (counts_and y (a i) near).1 x in inr (p.0, same.1 p.1))
        ((counts_or y (b i) (lower (a i) near)).1 h),
  )

  module _ (n : ℕ) where
    -- until counts at i of n: its second side at some j, or its first side through to n, beyond which open counts
    abbrev U : ℕ → Type 0
    U i = UntilAt A B n i ⊎ ((y ≡ true) × AllIn A i (n + 1))

    -- by the instant after
    until-in : (i : ℕ) → i ≤ n → B i ⊎ (A i × U (i + 1)) → U i
    until-in i l =
        ⊎_elim
        (λ (x : B i). inl (i, omega arith, l, x, λ k h m. absurd (omega arith)))
        (λ (x : A i × U (i + 1)).
        ⊎_elim
        (λ (u : UntilAt A B n (i + 1)).
        let p = u.1 in inl (u.0, omega arith, u.2, u.3, λ k h m. ⊎_elim (λ (e : i ≡ k). subst A e x.0) (λ (e : i ≢ k). u.4 k (omega arith) m) (cases_eq i k)))
        (λ (u : (y ≡ true) × AllIn A (i + 1) (n + 1)).
        inr (u.0, λ k h m. ⊎_elim (λ (e : i ≡ k). subst A e x.0) (λ (e : i ≢ k). u.1 k (omega arith) m) (cases_eq i k)))
        x.1)

    -- and the other way
    until-out : (i : ℕ) → i ≤ n → U i → B i ⊎ (A i × U (i + 1))
    until-out i l =
        ⊎_elim
        (λ (u : UntilAt A B n i).
        let p = u.1 in
        let q = u.2 in
        ⊎_elim
        (λ (e : i ≡ u.0). inl (subst B (sym e) u.3))
        (λ (e : i ≢ u.0). inr (u.4 i (omega arith) (omega arith), inl (u.0, omega arith, q, u.3, λ k h m. u.4 k (omega arith) m)))
        (cases_eq i u.0))
        (λ (u : (y ≡ true) × AllIn A i (n + 1)). inr (u.1 i (omega arith) (omega arith), inr (u.0, λ k h m. u.1 k (omega arith) m)))

    -- beyond n it counts where open does
    beyond : (i : ℕ) → i ≡ n → U (i + 1) ↔ (y ≡ true)
    beyond i e = (
      ⊎_elim (λ (u : UntilAt A B n (i + 1)). let p = u.1 in let q = u.2 in absurd (omega arith)) (λ (u : (y ≡ true) × AllIn A (i + 1) (n + 1)). u.0),
      λ h. inr (h, λ k l m. absurd (omega arith)),
    )

    -- until counts where its verdict does
    pub counts_until : (k i : ℕ) → i + k ≡ n → U i ↔ (counts y (until_from a b Open k i) ≡ true)
    counts_until zero i s =
        let one = here i Open (U (i + 1)) (beyond i (omega arith)) in
        ((λ h. one.0 (until-out i (omega arith) h)), λ h. until-in i (omega arith) (one.1 h))
    counts_until (suc k) i s =
        let one = here i (until_from a b Open k (i + 1)) (U (i + 1)) (counts_until k (i + 1) (omega arith)) in
        ((λ h. one.0 (until-out i (omega arith) h)), λ h. until-in i (omega arith) (one.1 h))

  -- since by the instant before
  since-in : (i : ℕ) → B (i + 1) ⊎ (A (i + 1) × SinceAt A B i) → SinceAt A B (i + 1)
  since-in i =
      ⊎_elim
      (λ (x : B (i + 1)). (i + 1, omega arith, omega arith, x, λ k h m. absurd (omega arith)))
      (λ (x : A (i + 1) × SinceAt A B i).
      let u = x.1 in
      let q = u.2 in
      (u.0, u.1, omega arith, u.3, λ k h m. ⊎_elim (λ (e : i + 1 ≡ k). subst A e x.0) (λ (e : i + 1 ≢ k). u.4 k h (omega arith)) (cases_eq (i + 1) k)))

  -- and the other way
  since-out : (i : ℕ) → SinceAt A B (i + 1) → B (i + 1) ⊎ (A (i + 1) × SinceAt A B i)
  since-out i u =
      let p = u.1 in
      let q = u.2 in
      ⊎_elim
      (λ (e : i + 1 ≡ u.0). inl (subst B (sym e) u.3))
      (λ (e : i + 1 ≢ u.0). inr (u.4 (i + 1) (omega arith) (omega arith), (u.0, p, omega arith, u.3, λ k h m. u.4 k h (omega arith))))
      (cases_eq (i + 1) u.0)

  -- since counts where its verdict does
  pub counts_since : (k : ℕ) → SinceAt A B (k + 1) ↔ (counts y (since_to a b k) ≡ true)
  counts_since zero = (
    (λ u. let p = u.1 in let q = u.2 in let e : u.0 ≡ 1 = omega arith in subst B e u.3),
    λ h. (1, omega arith, omega arith, h, λ k l m. absurd (omega arith)),
  )
  counts_since (suc k) =
      let e : k + 1 ≡ suc k = omega arith in
      let f : suc k + 1 ≡ k + 2 = omega arith in
      let before : SinceAt A B (suc k) ↔ (counts y (since_to a b k) ≡ true) = subst (λ m. SinceAt A B m ↔ (counts y (since_to a b k) ≡ true)) e (counts_since k) in
      let one : (B (suc k + 1) ⊎ (A (suc k + 1) × SinceAt A B (suc k))) ↔ (counts y (higher (b (k + 2)) (lower (a (k + 2)) (since_to a b k))) ≡ true)
      = subst (λ m. (B (suc k + 1) ⊎ (A (suc k + 1) × SinceAt A B (suc k))) ↔ (counts y (higher (b m) (lower (a m) (since_to a b k))) ≡ true)) f (here (suc k + 1) (since_to a b k) (SinceAt A B (suc k)) before) in
      ((λ h. one.0 (since-out (suc k) h)), λ h. since-in (suc k) (one.1 h))
