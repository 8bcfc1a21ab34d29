-- A strip that is filled is the list of its labels.
use Rattle.std.proofs.Common.{◌≡◌, ℕ, zero, suc, ◌+◌, ◌-◌, ◌*◌, ◌/◌, ◌%◌, ◌<◌, ◌≤◌, List, ◌++◌, map, length, get_or, take, drop, sym, refl, ap, ◌∙◌, subst, suc-mul, mul-zero, zero-mul, arith}
use Rattle.std.specs.List.{range_with_len, flat_map}
use Rattle.std.proofs.lemmas.Nat.{div-add-mod', mod_below, div_below}
use Rattle.std.proofs.lemmas.List.FromFn.{length-map-range_with_len, get_or-map-range_with_len}
use Rattle.std.proofs.lemmas.List.{ext_get_or, length-append, length-take-le, get_or-take, get_or_append_left, get_or-append_right, take-append-drop}
use Rattle.label.specs.Labels.{label_at}
use Rattle.label.specs.Steps.{Filled, any_row}
use Rattle.label.specs.Strips.{cell, labels}
use Rattle.label.proofs.Places.{cell_below}
use Rattle.sheet.specs.declared.row.Row.{Row}
use Rattle.trace.specs.Readings.{Reading}
use Rattle.label.specs.declared.verdict.Verdict.{Verdict}
use Rattle.label.specs.declared.verdict.Verdict.TheVariants.{No}

-- lists of one length, one after another
module _ {X : Type 0} (f : ℕ → List X) (m : ℕ) (even : (i : ℕ) → length (f i) ≡ m) (d : X) where
  -- their length
  length-blocks : (a n : ℕ) → length (flat_map f (range_with_len a n)) ≡ n * m
  length-blocks a zero = sym (zero-mul m)
  length-blocks a (suc n) =
      let more = length-blocks (a + 1) n in
      let one = even a in
      let both = length-append (f a) (flat_map f (range_with_len (a + 1) n)) in
      let s = suc-mul n m in
      omega arith

  -- an element of one of them
  getD-blocks : (a n k q : ℕ) → k < n → q < m → get_or (flat_map f (range_with_len a n)) (k * m + q) d ≡ get_or (f (a + k)) q d
  getD-blocks a zero k q h l = absurd (omega arith)
  getD-blocks a (suc n) zero q h l =
      let one = even a in
      let e : 0 * m + q ≡ q = ap (λ x. x + q) (zero-mul m) ∙ (omega arith) in
      let z : a ≡ a + 0 = omega arith in
      ap (λ x. get_or (flat_map f (range_with_len a (suc n))) x d) e
      ∙ (get_or_append_left (f a) (flat_map f (range_with_len (a + 1) n)) d q (omega arith)
      ∙ ap (λ x. get_or (f x) q d) z)
  getD-blocks a (suc n) (suc k) q h l =
      let one = even a in
      let s = suc-mul k m in
      let e : suc k * m + q - m ≡ k * m + q = omega arith in
      let z : a + 1 + k ≡ a + suc k = omega arith in
      get_or-append_right (f a) (flat_map f (range_with_len (a + 1) n)) m (suc k * m + q) d one (omega arith)
      ∙ (ap (λ x. get_or (flat_map f (range_with_len (a + 1) n)) x d) e
      ∙ (getD-blocks (a + 1) n k q (omega arith) l
      ∙ ap (λ x. get_or (f x) q d) z))

-- a factor of a product that is not 0
positive : (n m c : ℕ) → c < n * m → 0 < m
positive n zero c h = let z = mul-zero n in absurd (omega arith)
positive n (suc m) c h = omega arith

-- a filled strip is its labels and what comes after
pub filled_is : (e : Verdict) (rs : List Reading) (rows : List Row) (strip was : List Verdict) → length rs * length rows ≤ length strip → Filled any_row e rs rows 1 (length rs) strip → drop (length rs * length rows) strip ≡ drop (length rs * length rows) was → strip ≡ labels e rs rows ++ drop (length rs * length rows) was
filled_is e rs rows strip was room fill rest =
    let n = length rs in
    let m = length rows in
    let f : ℕ → List Verdict = λ i. map (label_at e rs rows i) (range_with_len 0 m) in
    let even : (i : ℕ) → length (f i) ≡ m = λ i. length-map-range_with_len (label_at e rs rows i) 0 m in
    let cut = length-take-le (n * m) strip room in
    let all = length-blocks f m even No 1 n in
    let each : (c : ℕ) → c < length (take (n * m) strip) → get_or (take (n * m) strip) c No ≡ get_or (labels e rs rows) c No = λ c l.
    let l' : c < n * m = omega arith in
    let some : 0 < m = positive n m c l' in
    let k = c / m in
    let q = c % m in
    let is : k * m + q ≡ c = div-add-mod' c m in
    let kn : k < n = div_below c m n some l' in
    let qm : q < m = mod_below c m some in
    let o : k + 1 - 1 ≡ k = omega arith in
    let there : get_or strip (cell m (k + 1) q) No ≡ label_at e rs rows (k + 1) q = fill (k + 1) q (omega arith) (omega arith) qm refl in
    let at : get_or strip c No ≡ label_at e rs rows (k + 1) q = ap (λ x. get_or strip x No) (sym is) ∙ (ap (λ x. get_or strip (x * m + q) No) (sym o) ∙ there) in
    let w : 1 + k ≡ k + 1 = omega arith in
    let block : get_or (labels e rs rows) (k * m + q) No ≡ label_at e rs rows (k + 1) q =
    getD-blocks f m even No 1 n k q kn qm ∙ (ap (λ x. get_or (f x) q No) w ∙ get_or-map-range_with_len (label_at e rs rows (k + 1)) 0 m q q No qm (omega arith)) in
    get_or-take (n * m) strip c No l' ∙ (at ∙ (sym block ∙ ap (λ x. get_or (labels e rs rows) x No) is)) in
    let front : take (n * m) strip ≡ labels e rs rows = ext_get_or No (take (n * m) strip) (labels e rs rows) (cut ∙ sym all) each in
    sym (take-append-drop (n * m) strip) ∙ (ap (λ xs. xs ++ drop (n * m) strip) front ∙ ap (λ ys. labels e rs rows ++ ys) rest)

-- the same where the code's own numbers stand for the lengths
pub strip_is : (e : Verdict) (rs : List Reading) (rows : List Row) (n k : ℕ) (strip was : List Verdict) → n ≡ length rs → k ≡ length rows → n * k ≤ length strip → Filled any_row e rs rows 1 n strip → drop (n * k) strip ≡ drop (n * k) was → strip ≡ labels e rs rows ++ drop (length rs * length rows) was
strip_is e rs rows n k strip was a b room fill rest =
    let P : ℕ → ℕ → Type 0 = λ x y. drop (x * y) strip ≡ drop (x * y) was in
    filled_is e rs rows strip was
    (subst (λ y. length rs * y ≤ length strip) b (subst (λ x. x * k ≤ length strip) a room))
    (subst (λ x. Filled any_row e rs rows 1 x strip) a fill)
    (subst (λ y. P (length rs) y) b (subst (λ x. P x k) a rest))

-- each cell of a labelled strip holds its row's verdict
pub labels_at : (e : Verdict) (rs : List Reading) (rows : List Row) (more : List Verdict) (i r : ℕ) → 1 ≤ i → i ≤ length rs → r < length rows → get_or (labels e rs rows ++ more) (cell (length rows) i r) No ≡ label_at e rs rows i r
labels_at e rs rows more i r l h u =
    let n = length rs in
    let m = length rows in
    let f : ℕ → List Verdict = λ j. map (label_at e rs rows j) (range_with_len 0 m) in
    let even : (j : ℕ) → length (f j) ≡ m = λ j. length-map-range_with_len (label_at e rs rows j) 0 m in
    let all = length-blocks f m even No 1 n in
    let w : 1 + (i - 1) ≡ i = omega arith in
    get_or_append_left (labels e rs rows) more No (cell m i r) (omega (arith, cell_below (i - 1) n m r (omega arith) u))
    ∙ (getD-blocks f m even No 1 n (i - 1) r (omega arith) u
    ∙ (ap (λ x. get_or (f x) r No) w ∙ get_or-map-range_with_len (label_at e rs rows i) 0 m r r No u (omega arith)))
