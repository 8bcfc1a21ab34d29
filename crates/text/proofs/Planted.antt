-- The rows that readers put onto a draft are those of the formula, up to the first refusal. Assumes nothing.
use Rattle.std.proofs.Common.{◌≡◌, ℕ, ◌+◌, List, [], ◌∷◌, ◌++◌, length, Some, None, Option, sym, refl, ap, ◌∙◌, subst, append_assoc, append-nil, arith, length-append}
use Rattle.sheet.specs.Rows.{row_refusal}
use Rattle.sheet.specs.Sheets.{classes_of}
use Rattle.sheet.specs.declared.refusal.Refusal.{Refusal}
use Rattle.sheet.specs.declared.row.Row.{Row}
use Rattle.text.specs.Adding.{size, own, rows_for, first_of, first_refusal}
use Rattle.text.specs.Drafts.{Drafted, fresh, put_row, put_after, put_unless}
use Rattle.text.specs.Machine.{plant}
use Rattle.text.specs.Trees.{Tree, leaf, one, two, meant, leaf_row, one_row, two_row}
use Rattle.text.proofs.Sizes.{rows_leaf, rows_one, rows_two, size_leaf, size_one, size_two, length_rows}

-- the first refusal of rows in two parts
pub first_append : (rows xs ys : List Row) → first_refusal rows (xs ++ ys) ≡ first_of (first_refusal rows xs) (first_refusal (rows ++ xs) ys)
first_append rows [] ys = ap (λ (z : List Row). first_refusal z ys) (sym (append-nil rows))
first_append rows (x ∷ xs) ys =
    ap (first_of (row_refusal (classes_of rows) x)) (first_append (rows ++ x ∷ []) xs ys ∙ ap (λ (z : List Row). first_of (first_refusal (rows ++ x ∷ []) xs) (first_refusal z ys)) (append_assoc rows (x ∷ []) xs))
    ∙ assoc (row_refusal (classes_of rows) x) (first_refusal (rows ++ x ∷ []) xs) (first_refusal (rows ++ (x ∷ xs)) ys)
  where
    assoc : (o p q : Option Refusal) → first_of o (first_of p q) ≡ first_of (first_of o p) q
    assoc None p q = refl
    assoc (Some e) p q = refl

-- where two have no refusal, the first has none
pub none_first : (o p : Option Refusal) → first_of o p ≡ None → o ≡ None
none_first None p e = refl
none_first (Some x) p e = e

-- a draft to which rows xs were added, whose first refusal is o
abbrev State : List Row → List Row → Drafted → Option Refusal → Type 0
State rows xs d None = d ≡ fresh (rows ++ xs)
State rows xs d (Some e) = d.refusal ≡ Some e

-- a draft to which rows xs were added
abbrev pub Put : List Row → List Row → Drafted → Type 0
Put rows xs d = State rows xs d (first_refusal rows xs)

-- the refusal that it remembers is the first
pub put_refusal : (rows xs : List Row) (d : Drafted) → Put rows xs d → d.refusal ≡ first_refusal rows xs
put_refusal rows xs d h = by (first_refusal rows xs) h
  where
    by : (o : Option Refusal) → State rows xs d o → d.refusal ≡ o
    by None s = ap (λ (z : Drafted). z.refusal) s
    by (Some e) s = s

-- without one it has all rows
pub put_all : (rows xs : List Row) (d : Drafted) → Put rows xs d → first_refusal rows xs ≡ None → d ≡ fresh (rows ++ xs)
put_all rows xs d h none = subst (State rows xs d) none h

-- a draft and a number after one more row
record Next (rows xs : List Row) (x : Row) (p : Drafted × ℕ) : Type 0 where
  state : Put rows (xs ++ x ∷ []) p.0
  number : first_refusal rows (xs ++ x ∷ []) ≡ None → p.1 ≡ length rows + length xs

-- one row more; after a refusal any row is as good
put_next : (rows xs : List Row) (d : Drafted) (y x : Row) → Put rows xs d → (first_refusal rows xs ≡ None → y ≡ x) → Next rows xs x (put_row d y)
put_next rows xs d y x h same = record {
  state = subst (State rows (xs ++ x ∷ []) (put_row d y).0) (sym split) (state (first_refusal rows xs) h same);
  number = λ none.
      let n = none_first (first_refusal rows xs) last (sym split ∙ none) in
      let e : put_row d y ≡ put_row (fresh (rows ++ xs)) x = (λ i. put_row (put_all rows xs d h n i) (same n i)) in
      ap (λ (z : Drafted × ℕ). z.1) e ∙ accepted (row_refusal (classes_of (rows ++ xs)) x) (none_first (row_refusal (classes_of (rows ++ xs)) x) None (second (first_refusal rows xs) last n (sym split ∙ none)));
}
  where
    last : Option Refusal
    last = first_of (row_refusal (classes_of (rows ++ xs)) x) None

    split : first_refusal rows (xs ++ x ∷ []) ≡ first_of (first_refusal rows xs) (first_of (row_refusal (classes_of (rows ++ xs)) x) None)
    split = first_append rows xs (x ∷ [])

    second : (o p : Option Refusal) → o ≡ None → first_of o p ≡ None → p ≡ None
    second o p e h = ap (λ z. first_of z p) (sym e) ∙ h

    accepted : (o : Option Refusal) → o ≡ None → (put_unless o (rows ++ xs) x).1 ≡ length rows + length xs
    accepted o e = ap (λ z. (put_unless z (rows ++ xs) x).1) e ∙ length-append rows xs

    one_more : (o : Option Refusal) → State rows (xs ++ x ∷ []) (put_unless o (rows ++ xs) x).0 (first_of o None)
    one_more None = ap fresh (append_assoc rows xs (x ∷ []))
    one_more (Some e) = refl

    state : (o : Option Refusal) → State rows xs d o → (o ≡ None → y ≡ x) → State rows (xs ++ x ∷ []) (put_row d y).0 (first_of o (first_of (row_refusal (classes_of (rows ++ xs)) x) None))
    state None s e = subst (λ (z : Drafted). State rows (xs ++ x ∷ []) z (first_of (row_refusal (classes_of (rows ++ xs)) x) None)) (sym (λ i. (put_row (s i) (e refl i)).0)) (one_more (row_refusal (classes_of (rows ++ xs)) x))
    state (Some r) s e = ap (λ z. (put_after z d.rows y).0.refusal) s

-- a formula's rows after a refusal: nothing is added
plant_refused : (t : Tree) (d : Drafted) (e : Refusal) → d.refusal ≡ Some e → (plant t d).0.refusal ≡ Some e
plant_refused (leaf l) d e h = ap (λ z. (put_after z d.rows (leaf_row l)).0.refusal) h
plant_refused (one u t) d e h =
    let m = plant t d in
    ap (λ z. (put_after z m.0.rows (one_row u m.1)).0.refusal) (plant_refused t d e h)
plant_refused (two t o s) d e h =
    let m = plant t d in
    let k = plant s m.0 in
    ap (λ z. (put_after z k.0.rows (two_row o m.1 k.1)).0.refusal) (plant_refused s m.0 e (plant_refused t d e h))

-- the rows of a formula were put onto a draft of these rows, and its own row has this number
pub record Planted (t : Tree) (rows : List Row) : Type 0 where
  pub state : Put rows (rows_for (meant t) (length rows)) (plant t (fresh rows)).0
  pub number : first_refusal rows (rows_for (meant t) (length rows)) ≡ None → (plant t (fresh rows)).1 ≡ own (meant t) (length rows)

-- the rows of a formula after those of another
pub record After (t : Tree) (rows xs : List Row) (d : Drafted) : Type 0 where
  pub state : Put rows (xs ++ rows_for (meant t) (length rows + length xs)) (plant t d).0
  pub number : first_refusal rows (xs ++ rows_for (meant t) (length rows + length xs)) ≡ None → (plant t d).1 ≡ own (meant t) (length rows + length xs)

-- a formula that can be put onto any rows can be put after others
pub after : (t : Tree) (rows xs : List Row) (d : Drafted) → Put rows xs d → Planted t (rows ++ xs) → After t rows xs d
after t rows xs d h next = record {
  state = subst (State rows (xs ++ ys) (plant t d).0) (sym split) (state (first_refusal rows xs) h);
  number = λ none.
      let n = none_first (first_refusal rows xs) (first_refusal (rows ++ xs) ys) (sym split ∙ none) in
      let same : d ≡ fresh (rows ++ xs) = put_all rows xs d h n in
      let rest : first_refusal (rows ++ xs) ys ≡ None = ap (λ z. first_of z (first_refusal (rows ++ xs) ys)) (sym n) ∙ (sym split ∙ none) in
      ap (λ (z : Drafted). (plant t z).1) same ∙ next.number (ap (λ k. first_refusal (rows ++ xs) (rows_for (meant t) k)) long ∙ rest) ∙ ap (own (meant t)) long;
}
  where
    long : length (rows ++ xs) ≡ length rows + length xs
    long = length-append rows xs

    ys : List Row
    ys = rows_for (meant t) (length rows + length xs)

    split : first_refusal rows (xs ++ rows_for (meant t) (length rows + length xs)) ≡ first_of (first_refusal rows xs) (first_refusal (rows ++ xs) (rows_for (meant t) (length rows + length xs)))
    split = first_append rows xs (rows_for (meant t) (length rows + length xs))

    joined : (zs : List Row) (k : Drafted) (o : Option Refusal) → State (rows ++ xs) zs k o → State rows (xs ++ zs) k o
    joined zs k None s = s ∙ ap fresh (append_assoc rows xs zs)
    joined zs k (Some e) s = s

    state : (o : Option Refusal) → State rows xs d o → State rows (xs ++ rows_for (meant t) (length rows + length xs)) (plant t d).0 (first_of o (first_refusal (rows ++ xs) (rows_for (meant t) (length rows + length xs))))
    state None s =
        let there : Put (rows ++ xs) (rows_for (meant t) (length rows + length xs)) (plant t (fresh (rows ++ xs))).0 = subst (λ k. Put (rows ++ xs) (rows_for (meant t) k) (plant t (fresh (rows ++ xs))).0) long next.state in
        joined (rows_for (meant t) (length rows + length xs)) (plant t d).0 (first_refusal (rows ++ xs) (rows_for (meant t) (length rows + length xs)))
        (subst (λ (z : Drafted). Put (rows ++ xs) (rows_for (meant t) (length rows + length xs)) (plant t z).0) (sym s) there)
    state (Some e) s = plant_refused t d e s

-- the rows of two formulas were put onto a draft of these rows, one after the other
pub record Pair (t s : Tree) (rows : List Row) : Type 0 where
  pub state : Put rows (rows_for (meant t) (length rows) ++ rows_for (meant s) (length rows + size (meant t))) (plant s (plant t (fresh rows)).0).0
  pub first : first_refusal rows (rows_for (meant t) (length rows) ++ rows_for (meant s) (length rows + size (meant t))) ≡ None → (plant t (fresh rows)).1 ≡ own (meant t) (length rows)
  pub second : first_refusal rows (rows_for (meant t) (length rows) ++ rows_for (meant s) (length rows + size (meant t))) ≡ None → (plant s (plant t (fresh rows)).0).1 ≡ own (meant s) (length rows + size (meant t))

-- two formulas that can be put one after the other
pub pair : (t s : Tree) (rows : List Row) → Planted t rows → Planted s (rows ++ rows_for (meant t) (length rows)) → Pair t s rows
pair t s rows h next =
    let n = length rows in
    let a = meant t in
    let b = meant s in
    let d = (plant t (fresh rows)).0 in
    let front = rows_for a n in
    let back = rows_for b (n + size a) in
    let g : After s rows front d = after s rows front d h.state next in
    let place : n + length front ≡ n + size a = ap (λ i. n + i) (length_rows t n) in
    record {
      state = subst (λ i. Put rows (front ++ rows_for b i) (plant s d).0) place g.state;
      first = λ none. h.number (none_first (first_refusal rows front) (first_refusal (rows ++ front) back) (sym (first_append rows front back) ∙ none));
      second = λ none. g.number (ap (λ i. first_refusal rows (front ++ rows_for b i)) place ∙ none) ∙ ap (own b) place;
    }

-- the rows of each formula can be put onto any rows
pub planted : (t : Tree) (rows : List Row) → Planted t rows
planted (leaf l) rows =
    let n = length rows in
    let xs = rows_leaf l n in
    let p = put_next rows [] (fresh rows) (leaf_row l) (leaf_row l) (ap fresh (sym (append-nil rows))) (λ _. refl) in
    record {
      state = subst (λ (z : List Row). Put rows z (put_row (fresh rows) (leaf_row l)).0) (sym xs) p.state;
      number = λ none. p.number (ap (first_refusal rows) (sym xs) ∙ none) ∙ omega (arith, size_leaf l);
    }
planted (one u t) rows =
    let n = length rows in
    let a = meant t in
    let h = planted t rows in
    let m = plant t (fresh rows) in
    let xs = rows_one u a n in
    let p = put_next rows (rows_for a n) m.0 (one_row u m.1) (one_row u (own a n)) h.state (λ none. ap (one_row u) (h.number none)) in
    record {
      state = subst (λ (z : List Row). Put rows z (put_row m.0 (one_row u m.1)).0) (sym xs) p.state;
      number = λ none. p.number (ap (first_refusal rows) (sym xs) ∙ none) ∙ omega (arith, size_one u a, length_rows t n);
    }
planted (two t o s) rows =
    let n = length rows in
    let a = meant t in
    let b = meant s in
    let m = plant t (fresh rows) in
    let k = plant s m.0 in
    let front = rows_for a n in
    let back = rows_for b (n + size a) in
    let g : Pair t s rows = pair t s rows (planted t rows) (planted s (rows ++ front)) in
    let same : first_refusal rows (front ++ back) ≡ None → two_row o m.1 k.1 ≡ two_row o (own a n) (own b (n + size a)) = λ none. (λ i. two_row o (g.first none i) (g.second none i)) in
    let p = put_next rows (front ++ back) k.0 (two_row o m.1 k.1) (two_row o (own a n) (own b (n + size a))) g.state same in
    let xs = rows_two o a b n in
    record {
      state = subst (λ (z : List Row). Put rows z (put_row k.0 (two_row o m.1 k.1)).0) (sym xs) p.state;
      number = λ none. p.number (ap (first_refusal rows) (sym xs) ∙ none) ∙ omega (arith, size_two o a b, length_rows t n, length_rows s (n + size a), length-append front back);
    }
