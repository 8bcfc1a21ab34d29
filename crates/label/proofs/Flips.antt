-- A mirrored formula on a reversed trace.
use Rattle.std.proofs.Common.{◌≡◌, ℕ, ◌+◌, ◌-◌, ◌<◌, ◌≤◌, List, map, reverse, length, get_or, sym, refl, ap, ◌∙◌, subst, inl, inr, ⊎_elim, arith}
use Rattle.std.proofs.lemmas.List.{get_or-reverse, get_or_default, length-reverse}
use Rattle.sheet.specs.Formulas.{Formula, True, False, Symbol, Not, And, Or, Next, Yest, Until, Since, Start, End, mirror}
use Rattle.trace.specs.Readings.{Reading, reading_at, shows, outside}
use Rattle.sheet.specs.Rows.{mirror_row}
use Rattle.sheet.specs.Sheets.{formula}
use Rattle.label.specs.Labels.{verdict, label_at}
use Rattle.label.specs.Theorems.{Tells}
use Rattle.label.specs.Truth.{Holds}
use Rattle.label.specs.declared.verdict.Verdict.{Verdict}
use Rattle.label.specs.declared.verdict.Verdict.TheVariants.{No, Open, Yes}
use Rattle.label.proofs.Truths.{settled, reading_in}
use Rattle.sheet.specs.declared.row.Row.{Row}
use Rattle.sheet.proofs.Mirrors.{formula_mirror}

-- each follows from the other
abbrev Iff : Type 0 → Type 0 → Type 0
Iff P Q = (P → Q) × (Q → P)

-- instants i and j lie at the same distance from the two ends of n
abbrev pub Across : ℕ → ℕ → ℕ → Type 0
Across n i j = (1 ≤ i) × (1 ≤ j) × (i + j ≡ n + 1)

module _ (n : ℕ) (A B A' B' : ℕ → Type 0) (ha : (i j : ℕ) → Across n i j → Iff (A i) (A' j)) (hb : (i j : ℕ) → Across n i j → Iff (B i) (B' j)) where
  -- until across is since
  until-since : (i j : ℕ) → Across n i j → (p : ℕ) × (i ≤ p) × (p ≤ n) × B p × ((k : ℕ) → i ≤ k → k < p → A k) → (p : ℕ) × (1 ≤ p) × (p ≤ j) × B' p × ((k : ℕ) → p < k → k ≤ j → A' k)
  until-since i j x u =
      let p = u.0 in
      let low = u.1 in
      let high = u.2 in
      let q = n + 1 - p in (
        q,
        omega arith,
        omega arith,
        (hb p q (omega arith, omega arith, omega arith)).0 u.3,
        λ k l h. (ha (n + 1 - k) k (omega arith, omega arith, omega arith)).0 (u.4 (n + 1 - k) (omega arith) (omega arith)),
      )

  -- since across is until
  since-until : (i j : ℕ) → Across n i j → (p : ℕ) × (1 ≤ p) × (p ≤ j) × B' p × ((k : ℕ) → p < k → k ≤ j → A' k) → (p : ℕ) × (i ≤ p) × (p ≤ n) × B p × ((k : ℕ) → i ≤ k → k < p → A k)
  since-until i j x u =
      let p = u.0 in
      let low = u.1 in
      let high = u.2 in
      let q = n + 1 - p in (
        q,
        omega arith,
        omega arith,
        (hb q p (omega arith, omega arith, omega arith)).1 u.3,
        λ k l h. (ha k (n + 1 - k) (omega arith, omega arith, omega arith)).1 (u.4 (n + 1 - k) (omega arith) (omega arith)),
      )

-- two verdicts that are told of the same fact, and are not open, are one
one_verdict : (P Q : Type 0) (u v : Verdict) → (P → Q) → (Q → P) → Tells u P → Tells v Q → (u ≡ Open → ⊥) → (v ≡ Open → ⊥) → u ≡ v
one_verdict P Q No No f g a b s t = refl
one_verdict P Q No Open f g a b s t = absurd (t refl)
one_verdict P Q No Yes f g a b s t = absurd (a (g b))
one_verdict P Q Open v f g a b s t = absurd (s refl)
one_verdict P Q Yes No f g a b s t = absurd (b (f a))
one_verdict P Q Yes Open f g a b s t = absurd (t refl)
one_verdict P Q Yes Yes f g a b s t = refl

-- a trace ss that shows the trace rs from its other end
module _ (rs ss : List Reading) (long : length ss ≡ length rs) (same : (i j : ℕ) → Across (length rs) i j → (s : ℕ) → shows (reading_at rs i) s ≡ shows (reading_at ss j) s) where
  -- across is symmetric
  back-across : (i j : ℕ) → Across (length rs) i j → Across (length ss) j i
  back-across i j x = (x.1, x.0, omega arith)

  -- a formula holds where its mirror does across
  flip : (f : Formula) (i j : ℕ) → Across (length rs) i j → Iff (Holds rs f i) (Holds ss (mirror f) j)
  flip True i j x = (λ h. tt, λ h. tt)
  flip False i j x = (λ h. h, λ h. h)
  flip (Symbol s) i j x =
      let e = same i j x s in
      (λ h. sym e ∙ h, λ h. e ∙ h)
  flip (Not a) i j x = let p = flip a i j x in (λ h k. h (p.1 k), λ h k. h (p.0 k))
  flip (And a b) i j x =
      let p = flip a i j x in
      let q = flip b i j x in
      (λ h. (p.0 h.0, q.0 h.1), λ h. (p.1 h.0, q.1 h.1))
  flip (Or a b) i j x =
      let p = flip a i j x in
      let q = flip b i j x in
      (⊎_elim (λ h. inl (p.0 h)) (λ h. inr (q.0 h)), ⊎_elim (λ h. inl (p.1 h)) (λ h. inr (q.1 h)))
  flip (Next a) i j x = (
    λ h. let l = h.0 in (omega arith, (flip a (i + 1) (j - 1) (omega arith, omega arith, omega arith)).0 h.1),
    λ h. let l = h.0 in (omega arith, (flip a (i + 1) (j - 1) (omega arith, omega arith, omega arith)).1 h.1),
  )
  flip (Yest a) i j x = (
    λ h. let l = h.0 in (omega arith, (flip a (i - 1) (j + 1) (omega arith, omega arith, omega arith)).0 h.1),
    λ h. let l = h.0 in (omega arith, (flip a (i - 1) (j + 1) (omega arith, omega arith, omega arith)).1 h.1),
  )
  flip (Until a b) i j x = (
    until-since (length rs) (Holds rs a) (Holds rs b) (Holds ss (mirror a)) (Holds ss (mirror b)) (flip a) (flip b) i j x,
    since-until (length rs) (Holds rs a) (Holds rs b) (Holds ss (mirror a)) (Holds ss (mirror b)) (flip a) (flip b) i j x,
  )
  flip (Since a b) i j x =
      let fa : (p q : ℕ) → Across (length ss) p q → Iff (Holds ss (mirror a) p) (Holds rs a q) = λ p q y. let z = flip a q p (y.1, y.0, omega arith) in (z.1, z.0) in
      let fb : (p q : ℕ) → Across (length ss) p q → Iff (Holds ss (mirror b) p) (Holds rs b q) = λ p q y. let z = flip b q p (y.1, y.0, omega arith) in (z.1, z.0) in (
        since-until (length ss) (Holds ss (mirror a)) (Holds ss (mirror b)) (Holds rs a) (Holds rs b) fa fb j i (back-across i j x),
        until-since (length ss) (Holds ss (mirror a)) (Holds ss (mirror b)) (Holds rs a) (Holds rs b) fa fb j i (back-across i j x),
      )
  flip Start i j x = (λ h. omega arith, λ h. omega arith)
  flip End i j x = (λ h. omega arith, λ h. omega arith)

  -- a mirrored row holds on the one where the row holds on the other
  pub flipped : (rows : List Row) (r i : ℕ) → 1 ≤ i → i ≤ length rs → Iff (Holds ss (formula (map mirror_row rows) r) (length rs - i + 1)) (Holds rs (formula rows r) i)
  flipped rows r i l h =
      let p = flip (formula rows r) i (length rs - i + 1) (l, omega arith, omega arith) in
      let e = formula_mirror rows r in
      (λ k. p.1 (subst (λ f. Holds ss f (length rs - i + 1)) e k), λ k. subst (λ f. Holds ss f (length rs - i + 1)) (sym e) (p.0 k))

  -- and their settled labels are the same
  pub flipped_labels : (rows : List Row) (r i : ℕ) → 1 ≤ i → i ≤ length rs → label_at No ss (map mirror_row rows) (length rs - i + 1) r ≡ label_at No rs rows i r
  flipped_labels rows r i l h =
      let j = length rs - i + 1 in
      let p = flipped rows r i l h in
      let a = settled ss (formula (map mirror_row rows) r) j (omega arith) (omega arith) in
      let b = settled rs (formula rows r) i l h in
      one_verdict (Holds ss (formula (map mirror_row rows) r) j) (Holds rs (formula rows r) i)
      (verdict No ss (formula (map mirror_row rows) r) j) (verdict No rs (formula rows r) i)
      p.0 p.1 a.0 b.0 a.1 b.1

-- the readings of a reversed trace
pub reading_reverse : (rs : List Reading) (i j : ℕ) → Across (length rs) i j → reading_at rs i ≡ reading_at (reverse rs) j
reading_reverse rs i j x =
    let l = x.0 in
    let h = x.1 in
    let s = x.2 in
    let e : length rs - 1 - (j - 1) ≡ i - 1 = omega arith in
    reading_in rs i l ∙ (get_or_default rs (i - 1) (outside i) (outside j) (omega arith)
    ∙ (ap (λ k. get_or rs k (outside j)) (sym e) ∙ (sym (get_or-reverse rs (j - 1) (outside j) (omega arith)) ∙ sym (reading_in (reverse rs) j h))))

-- a reversed trace shows what the trace does, from its other end
shows_reverse : (rs : List Reading) (i j : ℕ) → Across (length rs) i j → (s : ℕ) → shows (reading_at rs i) s ≡ shows (reading_at (reverse rs) j) s
shows_reverse rs i j x s = ap (λ rd. shows rd s) (reading_reverse rs i j x)

-- a mirrored row holds on the reversed trace where the row holds
pub mirrored : (rs : List Reading) (rows : List Row) (r i : ℕ) → 1 ≤ i → i ≤ length rs →
    (Holds (reverse rs) (formula (map mirror_row rows) r) (length rs - i + 1) → Holds rs (formula rows r) i)
    × (Holds rs (formula rows r) i → Holds (reverse rs) (formula (map mirror_row rows) r) (length rs - i + 1))
mirrored rs = flipped rs (reverse rs) (length-reverse rs) (shows_reverse rs)

-- settled labels of mirrored rows on the reversed trace
pub mirrored_labels : (rs : List Reading) (rows : List Row) (r i : ℕ) → 1 ≤ i → i ≤ length rs →
    label_at No (reverse rs) (map mirror_row rows) (length rs - i + 1) r ≡ label_at No rs rows i r
mirrored_labels rs = flipped_labels rs (reverse rs) (length-reverse rs) (shows_reverse rs)
