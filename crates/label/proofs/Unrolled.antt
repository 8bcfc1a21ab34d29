-- A row's verdict at an instant, from the rows before it there and from the neighbouring instant.
use Rattle.std.proofs.Common.{◌≡◌, ℕ, suc, ◌+◌, ◌-◌, ◌<◌, ◌≤◌, true, false, cond, ltb, List, length, get_or, sym, refl, ap, ◌∙◌, ⊎_elim, arith}
use Rattle.std.proofs.lemmas.Bool.{cases_lt, lt-ltb, le-ltb, and_parts, true≢false, false≢true, cond-false}
use Rattle.sheet.specs.Classes.{joined, present_or_past}
use Rattle.sheet.specs.Formulas.{Formula, False, Until, Since}
use Rattle.label.specs.Labels.{until_from, since_to, verdict}
use Rattle.trace.specs.Readings.{Reading, reading_at}
use Rattle.sheet.specs.Rows.{there, separated, row_class, class_at, build}
use Rattle.label.specs.Steps.{row_verdict, near_before, near_after}
use Rattle.label.specs.Verdicts.{lower, higher}
use Rattle.sheet.specs.declared.row.Class.{Class}
use Rattle.sheet.specs.declared.row.Class.TheVariants.{Present, Past, Future, Mixed}
use Rattle.sheet.specs.declared.row.Row.{Row}
use Rattle.sheet.specs.declared.row.Row.TheVariants as row
use Rattle.label.specs.declared.verdict.Verdict.{Verdict}
use Rattle.label.specs.declared.verdict.Verdict.TheVariants.{No, Open, Yes}
use Rattle.sheet.proofs.Rowwise.{one_there, two_there}

-- no is the lowest
pub lower_no : (v : Verdict) → lower v No ≡ No
lower_no No = refl
lower_no Open = refl
lower_no Yes = refl

-- no is the lowest, seen from above
pub higher_no : (v : Verdict) → higher v No ≡ v
higher_no No = refl
higher_no Open = refl
higher_no Yes = refl

-- since after the first instant
pub since_step : (a b : ℕ → Verdict) (i : ℕ) → 1 < i → since_to a b (i - 1) ≡ higher (b i) (lower (a i) (since_to a b (i - 1 - 1)))
since_step a b i l =
    let e : i - 1 ≡ suc (i - 2) = omega arith in
    let f : i - 2 + 2 ≡ i = omega arith in
    let k : i - 1 - 1 ≡ i - 2 = omega arith in
    ap (since_to a b) e ∙ rw (f, k)

-- since at the first instant, as if no came before it
pub since_first : (a b : ℕ → Verdict) (i : ℕ) → i ≡ 1 → since_to a b (i - 1) ≡ higher (b i) (lower (a i) No)
since_first a b i l =
    let e : i - 1 ≡ 0 = omega arith in
    ap (since_to a b) e ∙ (ap b (sym l) ∙ sym (ap (higher (b i)) (lower_no (a i)) ∙ higher_no (b i)))

-- until before the last instant
pub until_step : (a b : ℕ → Verdict) (e : Verdict) (n i : ℕ) → i < n → until_from a b e (n - i) i ≡ higher (b i) (lower (a i) (until_from a b e (n - (i + 1)) (i + 1)))
until_step a b e n i l =
    let k : n - i ≡ suc (n - (i + 1)) = omega arith in
    ap (λ x. until_from a b e x i) k

-- until at the last instant
pub until_last : (a b : ℕ → Verdict) (e : Verdict) (n i : ℕ) → n ≤ i → until_from a b e (n - i) i ≡ higher (b i) (lower (a i) e)
until_last a b e n i l =
    let k : n - i ≡ 0 = omega arith in
    ap (λ x. until_from a b e x i) k

-- two values that agree where a test passes
pub cond_agree : (a b : ℕ) (x y z : Verdict) → (a < b → x ≡ y) → cond (ltb a b) x z ≡ cond (ltb a b) y z
cond_agree a b x y z h =
    ⊎_elim
    (λ (l : a < b). ap (λ k. cond (ltb a b) k z) (h l))
    (λ (l : b ≤ a). cond-false (ltb a b) x z (le-ltb a b l) ∙ sym (cond-false (ltb a b) y z (le-ltb a b l)))
    (cases_lt a b)

-- what a row comes to, over the formulas of all rows
module _ (e : Verdict) (rs : List Reading) (fs : List Formula) (i r : ℕ) (low : 1 ≤ i) where
  -- the verdict of a formula
  abbrev V : Formula → ℕ → Verdict
  V f k = verdict e rs f k

  -- since by what the instant before gives
  at-since : (a b : Formula) → V (Since a b) i ≡ higher (V b i) (lower (V a i) (cond (ltb 1 i) (V (Since a b) (i - 1)) No))
  at-since a b =
      ⊎_elim
      (λ (l : 1 < i). rw (lt-ltb 1 i l) (since_step (V a) (V b) i l))
      (λ (l : i ≤ 1). rw (le-ltb 1 i l) (since_first (V a) (V b) i (omega arith)))
      (cases_lt 1 i)

  -- until by what the instant after gives
  at-until : (a b : Formula) → V (Until a b) i ≡ higher (V b i) (lower (V a i) (cond (ltb i (length rs)) (V (Until a b) (i + 1)) e))
  at-until a b =
      ⊎_elim
      (λ (l : i < length rs). rw (lt-ltb i (length rs) l) (until_step (V a) (V b) e (length rs) i l))
      (λ (l : length rs ≤ i). rw (le-ltb i (length rs) l) (until_last (V a) (V b) e (length rs) i l))
      (cases_lt i (length rs))

  -- a row that looks back at most, by the rows before it here and by the instant before
  pub unroll_back : (cs : List Class) (near : ℕ → Verdict) (x : Row) → present_or_past (row_class cs x) ≡ true → ((q : ℕ) → near q ≡ V (get_or fs q False) (i - 1)) → near r ≡ V (build fs x) (i - 1) → V (build fs x) i ≡ row_verdict x (reading_at rs i) (λ q. V (get_or fs q False) i) (near_before near i r x)
  unroll_back cs near row.True h k m = refl
  unroll_back cs near row.False h k m = refl
  unroll_back cs near (row.Symbol s) h k m = refl
  unroll_back cs near (row.Not a) h k m = refl
  unroll_back cs near (row.And a b) h k m = refl
  unroll_back cs near (row.Or a b) h k m = refl
  unroll_back cs near (row.Next a) h k m = absurd (false≢true h)
  unroll_back cs near (row.Yest a) h k m = rw (k a)
  unroll_back cs near (row.Until a b) h k m = absurd (false≢true h)
  unroll_back cs near (row.Since a b) h k m = rw m (at-since (get_or fs a False) (get_or fs b False))
  unroll_back cs near row.Start h k m = refl
  unroll_back cs near row.End h k m = absurd (false≢true h)

  -- a row that looks ahead, by the rows before it here and by the instant after
  pub unroll_ahead : (cs : List Class) (near : ℕ → Verdict) (x : Row) → present_or_past (row_class cs x) ≡ false → ((q : ℕ) → near q ≡ V (get_or fs q False) (i + 1)) → near r ≡ V (build fs x) (i + 1) → V (build fs x) i ≡ row_verdict x (reading_at rs i) (λ q. V (get_or fs q False) i) (near_after near e (length rs) i r x)
  unroll_ahead cs near row.True h k m = refl
  unroll_ahead cs near row.False h k m = refl
  unroll_ahead cs near (row.Symbol s) h k m = refl
  unroll_ahead cs near (row.Not a) h k m = refl
  unroll_ahead cs near (row.And a b) h k m = refl
  unroll_ahead cs near (row.Or a b) h k m = refl
  unroll_ahead cs near (row.Next a) h k m = rw (k a)
  unroll_ahead cs near (row.Yest a) h k m = absurd (true≢false h)
  unroll_ahead cs near (row.Until a b) h k m = rw m (at-until (get_or fs a False) (get_or fs b False))
  unroll_ahead cs near (row.Since a b) h k m = absurd (true≢false h)
  unroll_ahead cs near row.Start h k m = absurd (true≢false h)
  unroll_ahead cs near row.End h k m = refl

-- two joined classes look back at most only where both do
joined_back : (c d : Class) → present_or_past (joined c d) ≡ true → (present_or_past c ≡ true) × (present_or_past d ≡ true)
joined_back Present Present h = (refl, refl)
joined_back Present Past h = (refl, refl)
joined_back Present Future h = absurd (false≢true h)
joined_back Present Mixed h = absurd (false≢true h)
joined_back Past Present h = (refl, refl)
joined_back Past Past h = (refl, refl)
joined_back Past Future h = absurd (false≢true h)
joined_back Past Mixed h = absurd (false≢true h)
joined_back Future Present h = absurd (false≢true h)
joined_back Future Past h = absurd (false≢true h)
joined_back Future Future h = absurd (false≢true h)
joined_back Future Mixed h = absurd (false≢true h)
joined_back Mixed Present h = absurd (false≢true h)
joined_back Mixed Past h = absurd (false≢true h)
joined_back Mixed Future h = absurd (false≢true h)
joined_back Mixed Mixed h = absurd (false≢true h)

-- where the operands' verdicts agree, so does the row's
module _ (f g : ℕ → Verdict) (rd : Reading) (near : Verdict) (r : ℕ) where
  -- over all earlier rows
  pub agree_all : (x : Row) → there r x ≡ true → ((q : ℕ) → q < r → f q ≡ g q) → row_verdict x rd f near ≡ row_verdict x rd g near
  agree_all row.True t h = refl
  agree_all row.False t h = refl
  agree_all (row.Symbol s) t h = refl
  agree_all (row.Not a) t h = rw (h a (one_there a r t))
  agree_all (row.And a b) t h = let p = two_there a b r t in rw (h a p.0, h b p.1)
  agree_all (row.Or a b) t h = let p = two_there a b r t in rw (h a p.0, h b p.1)
  agree_all (row.Next a) t h = refl
  agree_all (row.Yest a) t h = refl
  agree_all (row.Until a b) t h = let p = two_there a b r t in rw (h a p.0, h b p.1)
  agree_all (row.Since a b) t h = let p = two_there a b r t in rw (h a p.0, h b p.1)
  agree_all row.Start t h = refl
  agree_all row.End t h = refl

  -- over the earlier rows that look back at most, for a row that does
  pub agree_back : (cs : List Class) (x : Row) → there r x ≡ true → separated cs x ≡ true → present_or_past (row_class cs x) ≡ true → ((q : ℕ) → q < r → present_or_past (class_at cs q) ≡ true → f q ≡ g q) → row_verdict x rd f near ≡ row_verdict x rd g near
  agree_back cs row.True t s n h = refl
  agree_back cs row.False t s n h = refl
  agree_back cs (row.Symbol k) t s n h = refl
  agree_back cs (row.Not a) t s n h = rw (h a (one_there a r t) n)
  agree_back cs (row.And a b) t s n h = let p = two_there a b r t in let j = joined_back (class_at cs a) (class_at cs b) n in rw (h a p.0 j.0, h b p.1 j.1)
  agree_back cs (row.Or a b) t s n h = let p = two_there a b r t in let j = joined_back (class_at cs a) (class_at cs b) n in rw (h a p.0 j.0, h b p.1 j.1)
  agree_back cs (row.Next a) t s n h = refl
  agree_back cs (row.Yest a) t s n h = refl
  agree_back cs (row.Until a b) t s n h = absurd (false≢true n)
  agree_back cs (row.Since a b) t s n h =
      let p = two_there a b r t in
      let u = and_parts (present_or_past (class_at cs a)) (present_or_past (class_at cs b)) s in
      rw (h a p.0 u.0, h b p.1 u.1)
  agree_back cs row.Start t s n h = refl
  agree_back cs row.End t s n h = refl

-- and so does what the neighbouring instant gives
pub near_before_agree : (f g : ℕ → Verdict) (i r : ℕ) (cs : List Class) (x : Row) → there r x ≡ true → separated cs x ≡ true → present_or_past (row_class cs x) ≡ true → (1 < i → (q : ℕ) → q < r → present_or_past (class_at cs q) ≡ true → f q ≡ g q) → (1 < i → f r ≡ g r) → near_before f i r x ≡ near_before g i r x
near_before_agree f g i r cs row.True t s n h k = refl
near_before_agree f g i r cs row.False t s n h k = refl
near_before_agree f g i r cs (row.Symbol y) t s n h k = refl
near_before_agree f g i r cs (row.Not a) t s n h k = refl
near_before_agree f g i r cs (row.And a b) t s n h k = refl
near_before_agree f g i r cs (row.Or a b) t s n h k = refl
near_before_agree f g i r cs (row.Next a) t s n h k = refl
near_before_agree f g i r cs (row.Yest a) t s n h k =
    cond_agree 1 i (f a) (g a) No (λ l. h l a (one_there a r t) s)
near_before_agree f g i r cs (row.Until a b) t s n h k = refl
near_before_agree f g i r cs (row.Since a b) t s n h k = cond_agree 1 i (f r) (g r) No k
near_before_agree f g i r cs row.Start t s n h k = refl
near_before_agree f g i r cs row.End t s n h k = refl

-- what the instant after gives agrees where its verdicts do
pub near_after_agree : (f g : ℕ → Verdict) (e : Verdict) (n i r : ℕ) (x : Row) → there r x ≡ true → (i < n → (q : ℕ) → q ≤ r → f q ≡ g q) → near_after f e n i r x ≡ near_after g e n i r x
near_after_agree f g e n i r row.True t h = refl
near_after_agree f g e n i r row.False t h = refl
near_after_agree f g e n i r (row.Symbol y) t h = refl
near_after_agree f g e n i r (row.Not a) t h = refl
near_after_agree f g e n i r (row.And a b) t h = refl
near_after_agree f g e n i r (row.Or a b) t h = refl
near_after_agree f g e n i r (row.Next a) t h =
    let o = one_there a r t in
    cond_agree i n (f a) (g a) e (λ l. h l a (omega arith))
near_after_agree f g e n i r (row.Yest a) t h = refl
near_after_agree f g e n i r (row.Until a b) t h = cond_agree i n (f r) (g r) e (λ l. h l r (omega arith))
near_after_agree f g e n i r (row.Since a b) t h = refl
near_after_agree f g e n i r row.Start t h = refl
near_after_agree f g e n i r row.End t h = refl
