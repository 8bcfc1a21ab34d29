-- The verdicts of the labelling rules against truth on a trace that goes on, or does not.
use Rattle.std.proofs.Common.{◌≡◌, ℕ, zero, suc, ◌+◌, ◌-◌, ◌<◌, ◌≤◌, Bool, true, false, cond, ltb, ◌≢◌, ◌⊎◌, List, [], ◌++◌, length, get_or, sym, refl, ap, ◌∙◌, subst, inl, inr, ⊎_elim, arith, length-append}
use Rattle.std.proofs.lemmas.List.{get_or_append_left, append-nil}
use Rattle.std.proofs.lemmas.Bool.{cases_lt, cases_eq, lt-ltb, le-ltb, ne_eqb, false≢true, cond-true, cond-false}
use Rattle.sheet.specs.Formulas.{Formula, True, False, Symbol, Not, And, Or, Next, Yest, Until, Since, Start, End}
use Rattle.label.specs.Labels.{until_from, since_to, verdict}
use Rattle.trace.specs.Readings.{Reading, reading_at, shows, outside}
use Rattle.label.specs.Theorems.{Tells}
use Rattle.label.specs.Truth.{Holds}
use Rattle.label.specs.Verdicts.{lower, higher, swapped, yes_if}
use Rattle.label.specs.declared.verdict.Verdict.{Verdict}
use Rattle.label.specs.declared.verdict.Verdict.TheVariants.{No, Open, Yes}

-- a verdict tells the same of facts that follow from each other
tells_iff : (P Q : Type 0) (v : Verdict) → (P → Q) → (Q → P) → Tells v P → Tells v Q
tells_iff P Q No f g h = λ q. h (g q)
tells_iff P Q Open f g h = tt
tells_iff P Q Yes f g h = f h

-- not
tells_not : (P : Type 0) (v : Verdict) → Tells v P → Tells (swapped v) (P → ⊥)
tells_not P No h = h
tells_not P Open h = tt
tells_not P Yes h = λ n. n h

-- and
tells_and : (P Q : Type 0) (u v : Verdict) → Tells u P → Tells v Q → Tells (lower u v) (P × Q)
tells_and P Q No v h k = λ b. h b.0
tells_and P Q Open No h k = λ b. k b.1
tells_and P Q Open Open h k = tt
tells_and P Q Open Yes h k = tt
tells_and P Q Yes No h k = λ b. k b.1
tells_and P Q Yes Open h k = tt
tells_and P Q Yes Yes h k = (h, k)

-- or
tells_or : (P Q : Type 0) (u v : Verdict) → Tells u P → Tells v Q → Tells (higher u v) (P ⊎ Q)
tells_or P Q No No h k = ⊎_elim h k
tells_or P Q No Open h k = tt
tells_or P Q No Yes h k = inr k
tells_or P Q Open No h k = tt
tells_or P Q Open Open h k = tt
tells_or P Q Open Yes h k = inr k
tells_or P Q Yes v h k = inl h

-- a test
tells_flag : (b : Bool) → Tells (yes_if b) (b ≡ true)
tells_flag true = refl
tells_flag false = λ h. false≢true h

-- the reading of an instant is one of the list, where the instant is one
pub reading_in : (rs : List Reading) (i : ℕ) → 1 ≤ i → reading_at rs i ≡ get_or rs (i - 1) (outside i)
reading_in rs i l = rw (ne_eqb i 0 (λ e. omega arith))

-- the readings of a trace stay where it goes on
reading_stays : (rs more : List Reading) (i : ℕ) → 1 ≤ i → i ≤ length rs → reading_at (rs ++ more) i ≡ reading_at rs i
reading_stays rs more i l h = reading_in (rs ++ more) i l ∙ (get_or_append_left rs more (outside i) (i - 1) (omega arith) ∙ sym (reading_in rs i l))

-- until and since, one instant on
module _ (N : ℕ) (A B : ℕ → Type 0) where
  -- until holds at i, where the trace has N instants
  abbrev U : ℕ → Type 0
  U i = (j : ℕ) × (i ≤ j) × (j ≤ N) × B j × ((k : ℕ) → i ≤ k → k < j → A k)

  -- since holds at i
  abbrev S : ℕ → Type 0
  S i = (j : ℕ) × (1 ≤ j) × (j ≤ i) × B j × ((k : ℕ) → j < k → k ≤ i → A k)

  -- until holds: its second side here, or its first side here and until at the next instant
  until-out : (i : ℕ) → U i → B i ⊎ (A i × U (i + 1))
  until-out i u =
      ⊎_elim
      (λ (e : i ≡ u.0). inl (subst B (sym e) u.3))
      (λ (e : i ≢ u.0). inr (u.4 i (omega arith) (omega arith), (u.0, omega arith, u.2, u.3, λ k l h. u.4 k (omega arith) h)))
      (cases_eq i u.0)

  -- and the other way
  until-in : (i : ℕ) → i ≤ N → B i ⊎ (A i × U (i + 1)) → U i
  until-in i l =
      ⊎_elim
      (λ (b : B i). (i, omega arith, l, b, λ k h m. absurd (omega arith)))
      (λ (p : A i × U (i + 1)).
      let u = p.1 in (
        u.0,
        omega arith,
        u.2,
        u.3,
        λ k h m.
            ⊎_elim
            (λ (e : i ≡ k). subst A e p.0)
            (λ (e : i ≢ k). u.4 k (omega arith) m)
            (cases_eq i k),
      ))

  -- since holds: its second side here, or its first side here and since at the instant before
  since-out : (i : ℕ) → S (i + 1) → B (i + 1) ⊎ (A (i + 1) × S i)
  since-out i u =
      ⊎_elim
      (λ (e : i + 1 ≡ u.0). inl (subst B (sym e) u.3))
      (λ (e : i + 1 ≢ u.0). inr (u.4 (i + 1) (omega arith) (omega arith), (u.0, u.1, omega arith, u.3, λ k l h. u.4 k l (omega arith))))
      (cases_eq (i + 1) u.0)

  -- and the other way
  since-in : (i : ℕ) → B (i + 1) ⊎ (A (i + 1) × S i) → S (i + 1)
  since-in i =
      ⊎_elim
      (λ (b : B (i + 1)). (i + 1, omega arith, omega arith, b, λ k h m. absurd (omega arith)))
      (λ (p : A (i + 1) × S i).
      let u = p.1 in (
        u.0,
        u.1,
        omega arith,
        u.3,
        λ k h m.
            ⊎_elim
            (λ (e : i + 1 ≡ k). subst A e p.0)
            (λ (e : i + 1 ≢ k). u.4 k h (omega arith))
            (cases_eq (i + 1) k),
      ))

  -- until's verdict tells of until, where those of its sides tell of them
  until-tells : (a b : ℕ → Verdict) (e : Verdict) (n : ℕ) → n ≤ N → ((i : ℕ) → 1 ≤ i → i ≤ n → Tells (a i) (A i)) → ((i : ℕ) → 1 ≤ i → i ≤ n → Tells (b i) (B i)) → ((P : Type 0) → (P → n < N) → Tells e P) → (k i : ℕ) → 1 ≤ i → i + k ≡ n → Tells (until_from a b e k i) (U i)
  until-tells a b e n l ha hb he zero i low s =
      let last : Tells e (U (i + 1)) = he (U (i + 1)) (λ u. let p = u.1 in let q = u.2 in omega arith) in
      tells_iff (B i ⊎ (A i × U (i + 1))) (U i) (higher (b i) (lower (a i) e)) (until-in i (omega arith)) (until-out i)
      (tells_or (B i) (A i × U (i + 1)) (b i) (lower (a i) e) (hb i low (omega arith)) (tells_and (A i) (U (i + 1)) (a i) e (ha i low (omega arith)) last))
  until-tells a b e n l ha hb he (suc k) i low s =
      let v = until_from a b e k (i + 1) in
      let more : Tells v (U (i + 1)) = until-tells a b e n l ha hb he k (i + 1) (omega arith) (omega arith) in
      tells_iff (B i ⊎ (A i × U (i + 1))) (U i) (higher (b i) (lower (a i) v)) (until-in i (omega arith)) (until-out i)
      (tells_or (B i) (A i × U (i + 1)) (b i) (lower (a i) v) (hb i low (omega arith)) (tells_and (A i) (U (i + 1)) (a i) v (ha i low (omega arith)) more))

  -- since at the first instant is its second side
  since-one : B 1 → S 1
  since-one b = (1, omega arith, omega arith, b, λ k h m. absurd (omega arith))

  -- and the other way
  one-since : S 1 → B 1
  one-since u = let e : u.0 ≡ 1 = (let p = u.1 in let q = u.2 in omega arith) in subst B e u.3

  -- since's verdict tells of since
  since-tells : (a b : ℕ → Verdict) (n : ℕ) → ((i : ℕ) → 1 ≤ i → i ≤ n → Tells (a i) (A i)) → ((i : ℕ) → 1 ≤ i → i ≤ n → Tells (b i) (B i)) → (k : ℕ) → k + 1 ≤ n → Tells (since_to a b k) (S (k + 1))
  since-tells a b n ha hb zero l = tells_iff (B 1) (S 1) (b 1) since-one one-since (hb 1 (omega arith) (omega arith))
  since-tells a b n ha hb (suc k) l =
      let v = since_to a b k in
      let e : k + 2 ≡ suc k + 1 = omega arith in
      let f : k + 1 ≡ suc k = omega arith in
      let before : Tells v (S (suc k)) = subst (λ x. Tells v (S x)) f (since-tells a b n ha hb k (omega arith)) in
      let hb' : Tells (b (k + 2)) (B (suc k + 1)) = subst (λ x. Tells (b (k + 2)) (B x)) e (hb (k + 2) (omega arith) (omega arith)) in
      let ha' : Tells (a (k + 2)) (A (suc k + 1)) = subst (λ x. Tells (a (k + 2)) (A x)) e (ha (k + 2) (omega arith) (omega arith)) in
      tells_iff (B (suc k + 1) ⊎ (A (suc k + 1) × S (suc k))) (S (suc k + 1)) (higher (b (k + 2)) (lower (a (k + 2)) v)) (since-in (suc k)) (since-out (suc k))
      (tells_or (B (suc k + 1)) (A (suc k + 1) × S (suc k)) (b (k + 2)) (lower (a (k + 2)) v) hb' (tells_and (A (suc k + 1)) (S (suc k)) (a (k + 2)) v ha' before))

-- what the verdict beyond has to be told of: that nothing lies past the trace, and that it ends here
module _ (e : Verdict) (rs more : List Reading) (past : (P : Type 0) → (P → length rs < length (rs ++ more)) → Tells e P) (ends : Tells (swapped e) (length rs ≡ length (rs ++ more))) where
  -- a formula's verdict tells of the formula
  pub tells : (f : Formula) (i : ℕ) → 1 ≤ i → i ≤ length rs → Tells (verdict e rs f i) (Holds (rs ++ more) f i)
  tells True i l h = tt
  tells False i l h = λ x. x
  tells (Symbol s) i l h = subst (λ rd. Tells (yes_if (shows (reading_at rs i) s)) (shows rd s ≡ true)) (sym (reading_stays rs more i l h)) (tells_flag (shows (reading_at rs i) s))
  tells (Not a) i l h = tells_not (Holds (rs ++ more) a i) (verdict e rs a i) (tells a i l h)
  tells (And a b) i l h = tells_and (Holds (rs ++ more) a i) (Holds (rs ++ more) b i) (verdict e rs a i) (verdict e rs b i) (tells a i l h) (tells b i l h)
  tells (Or a b) i l h = tells_or (Holds (rs ++ more) a i) (Holds (rs ++ more) b i) (verdict e rs a i) (verdict e rs b i) (tells a i l h) (tells b i l h)
  tells (Next a) i l h =
      let long = length-append rs more in
      let G : Verdict → Type 0 = λ v. Tells v (Holds (rs ++ more) (Next a) i) in
      ⊎_elim
      (λ (u : i < length rs). subst G (sym (cond-true (ltb i (length rs)) (verdict e rs a (i + 1)) e (lt-ltb i (length rs) u)))
      (tells_iff (Holds (rs ++ more) a (i + 1)) (Holds (rs ++ more) (Next a) i) (verdict e rs a (i + 1)) (λ x. (omega arith, x)) (λ x. x.1) (tells a (i + 1) (omega arith) (omega arith))))
      (λ (u : length rs ≤ i). subst G (sym (cond-false (ltb i (length rs)) (verdict e rs a (i + 1)) e (le-ltb i (length rs) u)))
      (past (Holds (rs ++ more) (Next a) i) (λ x. let y = x.0 in omega arith)))
      (cases_lt i (length rs))
  tells (Yest a) i l h =
      let G : Verdict → Type 0 = λ v. Tells v (Holds (rs ++ more) (Yest a) i) in
      ⊎_elim
      (λ (u : 1 < i). subst G (sym (cond-true (ltb 1 i) (verdict e rs a (i - 1)) No (lt-ltb 1 i u)))
      (tells_iff (Holds (rs ++ more) a (i - 1)) (Holds (rs ++ more) (Yest a) i) (verdict e rs a (i - 1)) (λ x. (u, x)) (λ x. x.1) (tells a (i - 1) (omega arith) (omega arith))))
      (λ (u : i ≤ 1). subst G (sym (cond-false (ltb 1 i) (verdict e rs a (i - 1)) No (le-ltb 1 i u)))
      (λ x. let y = x.0 in omega arith))
      (cases_lt 1 i)
  tells (Until a b) i l h =
      let long = length-append rs more in
      until-tells (length (rs ++ more)) (Holds (rs ++ more) a) (Holds (rs ++ more) b) (verdict e rs a) (verdict e rs b) e (length rs) (omega arith) (tells a) (tells b) past (length rs - i) i l (omega arith)
  tells (Since a b) i l h =
      let s : i - 1 + 1 ≡ i = omega arith in
      let v = since_to (verdict e rs a) (verdict e rs b) (i - 1) in
      subst (λ x. Tells v (Holds (rs ++ more) (Since a b) x)) s
      (since-tells (length (rs ++ more)) (Holds (rs ++ more) a) (Holds (rs ++ more) b) (verdict e rs a) (verdict e rs b) (length rs) (tells a) (tells b) (i - 1) (omega arith))
  tells Start i l h =
      let G : Verdict → Type 0 = λ v. Tells v (i ≡ 1) in
      ⊎_elim
      (λ (u : 1 < i). subst G (sym (cond-true (ltb 1 i) No Yes (lt-ltb 1 i u))) (λ x. omega arith))
      (λ (u : i ≤ 1). subst G (sym (cond-false (ltb 1 i) No Yes (le-ltb 1 i u))) (omega arith))
      (cases_lt 1 i)
  tells End i l h =
      let long = length-append rs more in
      let G : Verdict → Type 0 = λ v. Tells v (i ≡ length (rs ++ more)) in
      ⊎_elim
      (λ (u : i < length rs). subst G (sym (cond-true (ltb i (length rs)) No (swapped e) (lt-ltb i (length rs) u))) (λ x. omega arith))
      (λ (u : length rs ≤ i). subst G (sym (cond-false (ltb i (length rs)) No (swapped e) (le-ltb i (length rs) u)))
      (tells_iff (length rs ≡ length (rs ++ more)) (i ≡ length (rs ++ more)) (swapped e) (λ (x : length rs ≡ length (rs ++ more)). omega arith) (λ (x : i ≡ length (rs ++ more)). omega arith) ends))
      (cases_lt i (length rs))

-- a standing verdict: nothing is told beyond the last event
pub standing : (rs more : List Reading) (f : Formula) (i : ℕ) → 1 ≤ i → i ≤ length rs → Tells (verdict Open rs f i) (Holds (rs ++ more) f i)
standing rs more f i l h = tells Open rs more (λ P k. tt) tt f i l h

-- a settled verdict: there is nothing beyond the last event
settled_tells : (rs : List Reading) (f : Formula) (i : ℕ) → 1 ≤ i → i ≤ length rs → Tells (verdict No rs f i) (Holds rs f i)
settled_tells rs f i l h =
    let long = append-nil rs in
    let same : length rs ≡ length (rs ++ []) = ap length (sym long) in
    subst (λ ss. Tells (verdict No rs f i) (Holds ss f i)) long
    (tells No rs [] (λ P k p. let x = k p in omega arith) same f i l h)

-- a verdict that is not open
abbrev Closed : Verdict → Type 0
Closed No = Unit {0}
Closed Open = ⊥
Closed Yes = Unit {0}

-- not keeps it so
closed_not : (v : Verdict) → Closed v → Closed (swapped v)
closed_not No h = tt
closed_not Open h = h
closed_not Yes h = tt

-- and
closed_and : (u v : Verdict) → Closed u → Closed v → Closed (lower u v)
closed_and No v h k = tt
closed_and Open v h k = absurd h
closed_and Yes v h k = k

-- or
closed_or : (u v : Verdict) → Closed u → Closed v → Closed (higher u v)
closed_or No v h k = k
closed_or Open v h k = absurd h
closed_or Yes v h k = tt

-- a test
closed_flag : (b : Bool) → Closed (yes_if b)
closed_flag true = tt
closed_flag false = tt

-- one of two
closed_cond : (b : Bool) (u v : Verdict) → Closed u → Closed v → Closed (cond b u v)
closed_cond true u v h k = h
closed_cond false u v h k = k

module _ (a b : ℕ → Verdict) (ha : (i : ℕ) → Closed (a i)) (hb : (i : ℕ) → Closed (b i)) where
  -- until
  closed-until : (k i : ℕ) → Closed (until_from a b No k i)
  closed-until zero i = closed_or (b i) (lower (a i) No) (hb i) (closed_and (a i) No (ha i) tt)
  closed-until (suc k) i = closed_or (b i) (lower (a i) (until_from a b No k (i + 1))) (hb i) (closed_and (a i) (until_from a b No k (i + 1)) (ha i) (closed-until k (i + 1)))

  -- since
  closed-since : (k : ℕ) → Closed (since_to a b k)
  closed-since zero = hb 1
  closed-since (suc k) = closed_or (b (k + 2)) (lower (a (k + 2)) (since_to a b k)) (hb (k + 2)) (closed_and (a (k + 2)) (since_to a b k) (ha (k + 2)) (closed-since k))

-- a settled verdict is never open
closed : (rs : List Reading) (f : Formula) (i : ℕ) → Closed (verdict No rs f i)
closed rs True i = tt
closed rs False i = tt
closed rs (Symbol s) i = closed_flag (shows (reading_at rs i) s)
closed rs (Not a) i = closed_not (verdict No rs a i) (closed rs a i)
closed rs (And a b) i = closed_and (verdict No rs a i) (verdict No rs b i) (closed rs a i) (closed rs b i)
closed rs (Or a b) i = closed_or (verdict No rs a i) (verdict No rs b i) (closed rs a i) (closed rs b i)
closed rs (Next a) i = closed_cond (ltb i (length rs)) (verdict No rs a (i + 1)) No (closed rs a (i + 1)) tt
closed rs (Yest a) i = closed_cond (ltb 1 i) (verdict No rs a (i - 1)) No (closed rs a (i - 1)) tt
closed rs (Until a b) i = closed-until (verdict No rs a) (verdict No rs b) (closed rs a) (closed rs b) (length rs - i) i
closed rs (Since a b) i = closed-since (verdict No rs a) (verdict No rs b) (closed rs a) (closed rs b) (i - 1)
closed rs Start i = closed_cond (ltb 1 i) No Yes tt tt
closed rs End i = closed_cond (ltb i (length rs)) No Yes tt tt

-- a settled verdict is the truth
pub settled : (rs : List Reading) (f : Formula) (i : ℕ) → 1 ≤ i → i ≤ length rs → Tells (verdict No rs f i) (Holds rs f i) × (verdict No rs f i ≡ Open → ⊥)
settled rs f i l h = (settled_tells rs f i l h, λ e. subst Closed e (closed rs f i))
