-- A set that is gathered from the operands' sets is where the standing verdict of the row's formula counts.
use Rattle.std.proofs.Common.{◌≡◌, ℕ, ◌+◌, ◌-◌, ◌<◌, ◌≤◌, Bool, true, false, cond, not, ltb, ◌⊎◌, ◌↔◌, List, length, get_or, take, None, Option, sym, refl, ap, ◌∙◌, subst, inl, inr, ⊎_elim, arith}
use Rattle.std.proofs.lemmas.Bool.{cases_lt, lt-ltb, le-ltb, cond-true, cond-false, false≢true}
use Rattle.label.specs.Labels.{verdict, since_to}
use Rattle.label.specs.declared.verdict.Verdict.{Verdict}
use Rattle.label.specs.declared.verdict.Verdict.TheVariants.{No, Open, Yes}
use Rattle.sheet.specs.Formulas.{Formula, False}
use Rattle.sheet.specs.Rows.{build}
use Rattle.sheet.specs.Sheets.{formulas}
use Rattle.sheet.specs.declared.row.Row.{Row}
use Rattle.sheet.specs.declared.row.Row.TheVariants as row
use Rattle.trace.specs.Readings.{Reading, reading_at, shows}
use Rattle.evaluator.specs.Quantifiers.{In, Exactly, UntilAt, SinceAt, AllIn}
use Rattle.evaluator.specs.Rows.{first_operand, second_operand}
use Rattle.evaluator.specs.Standing.{counts, StandsAt, WhereStands, WhereSure, WherePossible}
use Rattle.evaluator.specs.Truths.{readings}
use Rattle.evaluator.specs.declared.instants.Instants.{Instants}
use Rattle.evaluator.specs.declared.standing.Bounds.{Bounds}
use Rattle.evaluator.proofs.Counting.{counts_flag, counts_not, counts_and, counts_or, counts_until, counts_since, counts_yes, counts_maybe}
use Rattle.evaluator.proofs.Operands.{Operand, until_carried, since_carried, formula_row, formula_absent}
use Rattle.evaluator.specs.Folds.{Folded, no_row, too_high, of_row}
use Rattle.evaluator.proofs.Sets.{exactly_same, exactly_none}
use Rattle.evaluator.proofs.Truthful.{reading_of, as_long}

-- a verdict that depends on a test of two numbers
by_test : (P : Verdict → Type 0) (m n : ℕ) (u v : Verdict) → (m < n → P u) → (n ≤ m → P v) → P (cond (ltb m n) u v)
by_test P m n u v less more =
    ⊎_elim
    (λ (l : m < n). subst P (sym (cond-true (ltb m n) u v (lt-ltb m n l))) (less l))
    (λ (l : n ≤ m). subst P (sym (cond-false (ltb m n) u v (le-ltb m n l))) (more l))
    (cases_lt m n)

module _ (trace : List ℕ) (fs : List Formula) (y : Bool) where
  -- the standing verdict of a formula counts
  abbrev C : Bool → Formula → ℕ → Type 0
  C z f i = counts z (verdict Open (readings trace) f i) ≡ true

  -- the number of instants
  abbrev n : ℕ
  n = length (readings trace)

  -- a row counts by its operands where the verdict of its formula does
  formula-stands : (x : Row) (i : ℕ) → 1 ≤ i → i ≤ n → StandsAt x (get_or trace (i - 1) 0) (Operand (C y) fs (first_operand x)) (Operand (C y) fs (second_operand x)) (Operand (C (not y)) fs (first_operand x)) y n i ↔ C y (build fs x) i
  formula-stands row.True i low high = ((λ h. refl), λ h. tt)
  formula-stands row.False i low high = ((λ h. absurd h), λ h. false≢true h)
  formula-stands (row.Symbol s) i low high =
      let long = as_long trace in
      let e : shows (reading_at (readings trace) i) s ≡ _ = ap (λ (rd : Reading). shows rd s) (reading_of trace i low (omega arith)) in
      let f = counts_flag y (shows (reading_at (readings trace) i) s) ∙ e in
      ((λ h. f ∙ h), λ h. sym f ∙ h)
  formula-stands (row.Not a) i low high = counts_not y (verdict Open (readings trace) (get_or fs a False) i)
  formula-stands (row.And a b) i low high = counts_and y (verdict Open (readings trace) (get_or fs a False) i) (verdict Open (readings trace) (get_or fs b False) i)
  formula-stands (row.Or a b) i low high = counts_or y (verdict Open (readings trace) (get_or fs a False) i) (verdict Open (readings trace) (get_or fs b False) i)
  formula-stands (row.Next a) i low high =
      let A = C y (get_or fs a False) in
      by_test (λ v. (((i < n) × A (i + 1)) ⊎ ((n ≤ i) × (y ≡ true))) ↔ (counts y v ≡ true)) i n (verdict Open (readings trace) (get_or fs a False) (i + 1)) Open
      (λ l. (⊎_elim (λ (h : (i < n) × A (i + 1)). h.1) (λ (h : (n ≤ i) × (y ≡ true)). let m = h.0 in absurd (omega arith)), λ h. inl (l, h)))
      (λ l. (⊎_elim (λ (h : (i < n) × A (i + 1)). let m = h.0 in absurd (omega arith)) (λ (h : (n ≤ i) × (y ≡ true)). h.1), λ h. inr (l, h)))
  formula-stands (row.Yest a) i low high =
      let A = C y (get_or fs a False) in
      by_test (λ v. ((1 < i) × A (i - 1)) ↔ (counts y v ≡ true)) 1 i (verdict Open (readings trace) (get_or fs a False) (i - 1)) No
      (λ l. ((λ h. h.1), λ h. (l, h)))
      (λ l. ((λ h. let m = h.0 in absurd (omega arith)), λ h. absurd (false≢true h)))
  formula-stands (row.Until a b) i low high = counts_until y (verdict Open (readings trace) (get_or fs a False)) (verdict Open (readings trace) (get_or fs b False)) n (n - i) i (omega arith)
  formula-stands (row.Since a b) i low high =
      let va = verdict Open (readings trace) (get_or fs a False) in
      let vb = verdict Open (readings trace) (get_or fs b False) in
      let e : i - 1 + 1 ≡ i = omega arith in
      subst (λ m. SinceAt (λ k. counts y (va k) ≡ true) (λ k. counts y (vb k) ≡ true) m ↔ (counts y (since_to va vb (i - 1)) ≡ true)) e (counts_since y va vb (i - 1))
  formula-stands row.Start i low high =
      by_test (λ v. (i ≡ 1) ↔ (counts y v ≡ true)) 1 i No Yes
      (λ l. ((λ h. absurd (omega arith)), λ h. absurd (false≢true h)))
      (λ l. ((λ h. refl), λ h. omega arith))
  formula-stands row.End i low high =
      by_test (λ v. ((i ≡ n) × (y ≡ true)) ↔ (counts y v ≡ true)) i n No Open
      (λ l. ((λ h. let m = h.0 in absurd (omega arith)), λ h. absurd (false≢true h)))
      (λ l. ((λ h. h.1), λ h. (omega arith, h)))

-- a row counts alike by properties that the same instants have
module _ (n : ℕ) (A A' B B' O O' : ℕ → Type 0) (to : (i : ℕ) → 1 ≤ i → i ≤ n → A i → A' i) (too : (i : ℕ) → 1 ≤ i → i ≤ n → B i → B' i) (from : (i : ℕ) → 1 ≤ i → i ≤ n → O' i → O i) (y : Bool) where
  stands-carried : (x : Row) (s i : ℕ) → 1 ≤ i → i ≤ n → StandsAt x s A B O y n i → StandsAt x s A' B' O' y n i
  stands-carried row.True s i low high h = tt
  stands-carried row.False s i low high h = h
  stands-carried (row.Symbol k) s i low high h = h
  stands-carried (row.Not a) s i low high h = λ x. h (from i low high x)
  stands-carried (row.And a b) s i low high h = (to i low high h.0, too i low high h.1)
  stands-carried (row.Or a b) s i low high h = ⊎_elim (λ (x : A i). inl (to i low high x)) (λ (x : B i). inr (too i low high x)) h
  stands-carried (row.Next a) s i low high h =
      ⊎_elim
      (λ (x : (i < n) × A (i + 1)). let l = x.0 in inl (l, to (i + 1) (omega arith) (omega arith) x.1))
      (λ (x : (n ≤ i) × (y ≡ true)). inr x)
      h
  stands-carried (row.Yest a) s i low high h = let l = h.0 in (l, to (i - 1) (omega arith) (omega arith) h.1)
  stands-carried (row.Until a b) s i low high h =
      ⊎_elim
      (λ (u : UntilAt A B n i). inl (until_carried n A A' B B' to too i low u))
      (λ (u : (y ≡ true) × AllIn A i (n + 1)). inr (u.0, λ k l m. to k (omega arith) (omega arith) (u.1 k l m)))
      h
  stands-carried (row.Since a b) s i low high h = since_carried n A A' B B' to too i high h
  stands-carried row.Start s i low high h = h
  stands-carried row.End s i low high h = h

-- the standing verdict of a formula on a trace counts
abbrev pub Counts : List ℕ → Bool → Formula → ℕ → Type 0
Counts trace y f i = counts y (verdict Open (readings trace) f i) ≡ true

-- so the gathered set is where the standing verdict counts
gathers_standing : (trace : List ℕ) (fs : List Formula) (y : Bool) (x : Row) (a b o out : Instants)
    → Exactly a (length trace) (Operand (Counts trace y) fs (first_operand x)) → Exactly b (length trace) (Operand (Counts trace y) fs (second_operand x)) → Exactly o (length trace) (Operand (Counts trace (not y)) fs (first_operand x))
    → Exactly out (length trace) (λ i. StandsAt x (get_or trace (i - 1) 0) (In a) (In b) (In o) y (length trace) i)
    → Exactly out (length trace) (Counts trace y (build fs x))
gathers_standing trace fs y x a b o out ea eb eo =
    let n = length trace in
    let A = Operand (Counts trace y) fs (first_operand x) in
    let B = Operand (Counts trace y) fs (second_operand x) in
    let O = Operand (Counts trace (not y)) fs (first_operand x) in
    let long = as_long trace in
    let same : (i : ℕ) → 1 ≤ i → i ≤ n → StandsAt x (get_or trace (i - 1) 0) A B O y n i ↔ Counts trace y (build fs x) i
    = λ i low high. subst (λ m. StandsAt x (get_or trace (i - 1) 0) A B O y m i ↔ Counts trace y (build fs x) i) (sym long) (formula-stands trace fs y x i low (omega arith)) in
    exactly_same out n (λ i. StandsAt x (get_or trace (i - 1) 0) (In a) (In b) (In o) y n i) (Counts trace y (build fs x))
    (λ i low high h. (same i low high).0
    (stands-carried n (In a) A (In b) B (In o) O (λ j l m z. (ea.inside j z).2) (λ j l m z. (eb.inside j z).2) (λ j l m z. eo.all j l m z) y x (get_or trace (i - 1) 0) i low high h))
    (λ i low high h.
    stands-carried n A (In a) B (In b) O (In o) (λ j l m z. ea.all j l m z) (λ j l m z. eb.all j l m z) (λ j l m z. (eo.inside j z).2) y x (get_or trace (i - 1) 0) i low high ((same i low high).1 h))

-- a row that is there, whose operands are looked for among the rows before it
pub row_stands : (rows before : List Row) (trace : List ℕ) (r : ℕ) (d : Row) (y : Bool) (a b o out : Instants) → r < length rows → before ≡ take r rows
    → Exactly a (length trace) (Operand (Counts trace y) (formulas before) (first_operand (get_or rows r d)))
    → Exactly b (length trace) (Operand (Counts trace y) (formulas before) (second_operand (get_or rows r d)))
    → Exactly o (length trace) (Operand (Counts trace (not y)) (formulas before) (first_operand (get_or rows r d)))
    → Exactly out (length trace) (λ i. StandsAt (get_or rows r d) (get_or trace (i - 1) 0) (In a) (In b) (In o) y (length trace) i)
    → WhereStands y rows trace r out
row_stands rows before trace r d y a b o out l cut ea eb eo e =
    let made = ap (λ (xs : List Row). build (formulas xs) (get_or rows r d)) cut ∙ sym (formula_row rows r d l) in
    subst (λ f. Exactly out (length trace) (Counts trace y f)) made (gathers_standing trace (formulas before) y (get_or rows r d) a b o out ea eb eo e)

-- a row that is not there
pub row_falls : (rows : List Row) (trace : List ℕ) (r : ℕ) (y : Bool) (out : Instants) → length rows ≤ r → ((i : ℕ) → In out i → ⊥) → WhereStands y rows trace r out
row_falls rows trace r y out l none =
    subst (λ f. Exactly out (length trace) (Counts trace y f)) (sym (formula_absent rows r l)) (exactly_none out (length trace) (Counts trace y False) none (λ i h. false≢true h))

-- where open does not count, the set is where the row stands at yes
pub sure : (rows : List Row) (trace : List ℕ) (r : ℕ) (s : Instants) → WhereStands false rows trace r s → WhereSure rows trace r s
sure rows trace r s = exactly_same s (length trace) _ _ (λ i low high h. (counts_yes _).0 h) (λ i low high h. (counts_yes _).1 h)

-- where open counts, the set is where the row does not stand at no
pub possible : (rows : List Row) (trace : List ℕ) (r : ℕ) (s : Instants) → WhereStands true rows trace r s → WherePossible rows trace r s
possible rows trace r s = exactly_same s (length trace) _ _ (λ i low high h. (counts_maybe _).0 h) (λ i low high h. (counts_maybe _).1 h)

-- the bounds are those of an operand
abbrev pub BoundsOf : List ℕ → List Row → Option ℕ → Bounds → Type 0
BoundsOf trace before o s = Exactly s.surely (length trace) (Operand (Counts trace false) (formulas before) o) × Exactly s.possibly (length trace) (Operand (Counts trace true) (formulas before) o)

-- the bounds of an operand, by another name of it
bounds_operand : (trace : List ℕ) (before : List Row) (o q : Option ℕ) (s : Bounds) → o ≡ q → BoundsOf trace before o s → BoundsOf trace before q s
bounds_operand trace before o q s e = subst (λ (q : Option ℕ). BoundsOf trace before q s) e

-- a fold that goes by the rows gives where a formula surely and where it possibly holds
module _ (trace : List ℕ) (Parts : Row → Option ℕ × Option ℕ → Type 0) (Gives : Row → Bounds → Bounds → Bounds → Type 0) (absent : Bounds) (none : (i : ℕ) → In absent.surely i → ⊥) (neither : (i : ℕ) → In absent.possibly i → ⊥)
    (parts : (x : Row) (p : Option ℕ × Option ℕ) → Parts x p → p ≡ (first_operand x, second_operand x))
    (surely : (x : Row) (a b out : Bounds) → Gives x a b out → Exactly out.surely (length trace) (λ i. StandsAt x (get_or trace (i - 1) 0) (In a.surely) (In b.surely) (In a.possibly) false (length trace) i))
    (possibly : (x : Row) (a b out : Bounds) → Gives x a b out → Exactly out.possibly (length trace) (λ i. StandsAt x (get_or trace (i - 1) 0) (In a.possibly) (In b.possibly) (In a.surely) true (length trace) i)) where
  pub bounds_folded : {rows : List Row} {o : Option ℕ} {s : Bounds} → Folded Parts Gives absent rows o s → BoundsOf trace rows o s
  bounds_folded (no_row {rows}) = (
    exactly_none absent.surely (length trace) (Operand (Counts trace false) (formulas rows) None) none (λ i x. x),
    exactly_none absent.possibly (length trace) (Operand (Counts trace true) (formulas rows) None) neither (λ i x. x),
  )
  bounds_folded (too_high {rows} {r} l) = (row_falls rows trace r false absent.surely l none, row_falls rows trace r true absent.possibly l neither)
  bounds_folded (of_row {rows} {r} {p} {a} {b} {x} l part first second given) =
      let y = get_or rows r row.True in
      let is = parts y p part in
      let one = bounds_operand trace (take r rows) p.0 (first_operand y) a (ap (λ (q : Option ℕ × Option ℕ). q.0) is) (bounds_folded first) in
      let two = bounds_operand trace (take r rows) p.1 (second_operand y) b (ap (λ (q : Option ℕ × Option ℕ). q.1) is) (bounds_folded second) in (
        row_stands rows (take r rows) trace r row.True false a.surely b.surely a.possibly x.surely l refl one.0 two.0 one.1 (surely y a b x given),
        row_stands rows (take r rows) trace r row.True true a.possibly b.possibly a.surely x.possibly l refl one.1 two.1 one.0 (possibly y a b x given),
      )
