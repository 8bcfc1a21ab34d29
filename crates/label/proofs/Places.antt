-- The cells of a strip.
use Rattle.std.proofs.Common.{◌≡◌, ℕ, ◌+◌, ◌-◌, ◌*◌, ◌/◌, ◌%◌, ◌<◌, ◌≤◌, List, ◌++◌, length, get_or, take, drop, set, sym, ap, ◌∙◌, add-mul, one-mul, arith}
use borrow.Rule.Slice.PartMut.{put_mid}
use Rattle.std.proofs.lemmas.Nat.{mul-add-lt, div-mul-add, mod-mul-add}
use Rattle.std.proofs.lemmas.List.{drop-drop, take-append-drop, get_or-take, get_or-drop, length-take, length-take-le, length-drop, set-append_left, set-append_right}
use Rattle.label.specs.Strips.{cell}

-- a row of an earlier instant lies before the end of the later ones
pub cell_below : (i n m r : ℕ) → i < n → r < m → i * m + r < n * m
cell_below i n m r h l = omega (arith, mul-add-lt i m r n h l)

-- a cell has one row and one instant
pub cell_row : (m i j r q : ℕ) → r < m → q < m → cell m i r ≡ cell m j q → r ≡ q
cell_row m i j r q h l e = sym (mod-mul-add (i - 1) m r h) ∙ (ap (λ k. k % m) e ∙ mod-mul-add (j - 1) m q l)

-- and one instant
pub cell_instant : (m i j r q : ℕ) → 1 ≤ i → 1 ≤ j → r < m → q < m → cell m i r ≡ cell m j q → i ≡ j
cell_instant m i j r q s t h l e =
    let k : i - 1 ≡ j - 1 = sym (div-mul-add (i - 1) m r h) ∙ (ap (λ k. k / m) e ∙ div-mul-add (j - 1) m q l) in
    omega arith

-- the cells of an instant are within its end
pub cell_within : (m i r : ℕ) → 1 ≤ i → r < m → cell m i r < i * m
cell_within m i r h l = cell_below (i - 1) i m r (omega arith) l

-- an instant's part of the strip lies within it
pub part_within : (m i : ℕ) → 1 ≤ i → (i - 1) * m + m ≡ i * m
part_within m i h =
    let e : i - 1 + 1 ≡ i = omega arith in
    sym (add-mul (i - 1) 1 m ∙ ap (λ k. (i - 1) * m + k) (one-mul m)) ∙ ap (λ k. k * m) e

-- one cell written through a part that was lent on
pub put_mid_set : {X : Type 0} (a k : ℕ) (xs : List X) (r : ℕ) (v : X) → a + k ≤ length xs → r < k → put_mid a k xs (set (take k (drop a xs)) r v) ≡ set xs (a + r) v
put_mid_set a k xs r v h l =
    let P = take k (drop a xs) in
    let Q = drop k (drop a xs) in
    let whole : take a xs ++ (P ++ Q) ≡ xs = ap (λ ys. take a xs ++ ys) (take-append-drop k (drop a xs)) ∙ take-append-drop a xs in
    let long = length-take-le a xs (omega arith) in
    let rest = length-drop a xs in
    let part : r < length P = rw length-take (omega arith) in
    let at : a + r - a ≡ r = omega arith in
    sym (ap (λ ys. set ys (a + r) v) (sym whole)
    ∙ (set-append_right (take a xs) (P ++ Q) a (a + r) v long (omega arith)
    ∙ ap (λ ys. take a xs ++ ys) (ap (λ j. set (P ++ Q) j v) at ∙ set-append_left P Q r v part)))

-- the part of the strip that is lent on to label an instant
abbrev pub lent : {X : Type 0} → ℕ → ℕ → List X → List X
lent m i strip = take ((i - 1) * m + m - (i - 1) * m) (drop ((i - 1) * m) strip)

module _ {X : Type 0} (m i r : ℕ) (strip : List X) (low : 1 ≤ i) (room : i * m ≤ length strip) (within : r < m) where
  -- a row has its cell in the part
  pub lent_within : r < length (lent m i strip)
  lent_within =
      let e = part_within m i low in
      simp (length-take, length-drop) (omega arith)

  -- the part has the cells of its instant
  pub lent_at : (d : X) → get_or (lent m i strip) r d ≡ get_or strip (cell m i r) d
  lent_at d =
      get_or-take ((i - 1) * m + m - (i - 1) * m) (drop ((i - 1) * m) strip) r d (omega arith)
      ∙ get_or-drop ((i - 1) * m) strip r d

  -- a write to the part is a write to the cell of the strip
  pub lent_set : (strip' part : List X) (v : X) → part ≡ set (lent m i strip) r v → strip' ≡ put_mid ((i - 1) * m) ((i - 1) * m + m - (i - 1) * m) strip part → strip' ≡ set strip (cell m i r) v
  lent_set strip' part v p s =
      let e = part_within m i low in
      let a = (i - 1) * m in
      let k = (i - 1) * m + m - (i - 1) * m in
      s ∙ (ap (put_mid a k strip) p ∙ put_mid_set a k strip r v (omega arith) (omega arith))

-- lists that agree from one place on agree from a later one on
pub drop_later : {X : Type 0} (a b : ℕ) (xs ys : List X) → a ≤ b → drop a xs ≡ drop a ys → drop b xs ≡ drop b ys
drop_later a b xs ys l h =
    let e : a + (b - a) ≡ b = omega arith in
    ap (λ k. drop k xs) (sym e) ∙ (sym (drop-drop (b - a) a xs) ∙ (ap (drop (b - a)) h ∙ (drop-drop (b - a) a ys ∙ ap (λ k. drop k ys) e)))
