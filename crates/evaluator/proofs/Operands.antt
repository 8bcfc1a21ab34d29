-- The formula of a row, and what its operands mean.
use Rattle.std.proofs.Common.{◌≡◌, ℕ, zero, suc, ◌+◌, ◌-◌, ◌<◌, ◌≤◌, min, List, [], ◌∷◌, ◌++◌, length, get_or, take, Some, None, Option, sym, refl, ap, ◌∙◌, inl, inr, ⊎_elim, zero-add, arith}
use Rattle.std.proofs.lemmas.List.{length_push, get_or_append_left, get_or_push, get_or_past, take_all}
use Rattle.std.proofs.lemmas.Bool.{cases_lt}
use Rattle.sheet.specs.Formulas.{Formula, False}
use Rattle.sheet.specs.Rows.{build}
use Rattle.sheet.specs.Sheets.{formulas_from, formulas, formula}
use Rattle.sheet.proofs.Built.{length_formulas}
use Rattle.sheet.specs.declared.row.Row.{Row}
use Rattle.sheet.specs.declared.row.Row.TheVariants as row
use Rattle.evaluator.specs.Quantifiers.{UntilAt, SinceAt}
use Rattle.evaluator.specs.Rows.{HoldsAt}
use Rattle.evaluator.specs.Truths.{evaluated}

-- later rows leave the formulas of earlier ones
earlier : (fs : List Formula) (rows : List Row) (a : ℕ) → a < length fs → get_or (formulas_from fs rows) a False ≡ get_or fs a False
earlier fs [] a l = refl
earlier fs (x ∷ rows) a l =
    let one = length_push fs (build fs x) in
    earlier (fs ++ build fs x ∷ []) rows a (omega arith) ∙ get_or_append_left fs (build fs x ∷ []) False a l

-- the formula of a row is built from those of the rows before it, after some that are given
formula_from : (fs : List Formula) (rows : List Row) (r : ℕ) (d : Row) → r < length rows → get_or (formulas_from fs rows) (length fs + r) False ≡ build (formulas_from fs (take r rows)) (get_or rows r d)
formula_from fs [] r d l = absurd (omega arith)
formula_from fs (x ∷ rows) zero d l =
    let one = length_push fs (build fs x) in
    let e : length fs + 0 ≡ length fs = omega arith in
    rw e (earlier (fs ++ build fs x ∷ []) rows (length fs) (omega arith) ∙ get_or_push fs (build fs x) False (length fs) refl)
formula_from fs (x ∷ rows) (suc r) d l =
    let one = length_push fs (build fs x) in
    let e : length (fs ++ build fs x ∷ []) + r ≡ length fs + suc r = omega arith in
    ap (λ k. get_or (formulas_from (fs ++ build fs x ∷ []) rows) k False) (sym e) ∙ formula_from (fs ++ build fs x ∷ []) rows r d (omega arith)

-- the formula of a row is built from those of the rows before it
pub formula_row : (rows : List Row) (r : ℕ) (d : Row) → r < length rows → formula rows r ≡ build (formulas (take r rows)) (get_or rows r d)
formula_row rows r d l = ap (λ k. get_or (formulas rows) k False) (sym (zero-add r)) ∙ formula_from [] rows r d l

-- a row that is not there has the formula false
pub formula_absent : (rows : List Row) (r : ℕ) → length rows ≤ r → formula rows r ≡ False
formula_absent rows r l = let all = length_formulas [] rows in get_or_past (formulas rows) r False (omega arith)

-- the part of a trace that is evaluated, as the code cuts it
pub cut_long : (trace : List ℕ) (end : ℕ) → end ≡ min (length trace) 63 → take (end - 0) trace ≡ evaluated trace
cut_long trace end e =
    ⊎_elim
    (λ (l : length trace < 63). let k : length trace ≤ end - 0 = omega arith in take_all (end - 0) trace k ∙ sym (take_all 63 trace (omega arith)))
    (λ (l : 63 ≤ length trace). let k : end - 0 ≡ 63 = omega arith in ap (λ m. take m trace) k)
    (cases_lt (length trace) 63)

-- what M says of an operand's formula, and nothing of an operand that a row does not have
abbrev pub Operand : (Formula → ℕ → Type 0) → List Formula → Option ℕ → ℕ → Type 0
Operand M fs (Some a) i = M (get_or fs a False) i
Operand M fs None i = ⊥

-- properties that the same instants have
module _ (n : ℕ) (A A' B B' : ℕ → Type 0) (to : (i : ℕ) → 1 ≤ i → i ≤ n → A i → A' i) (too : (i : ℕ) → 1 ≤ i → i ≤ n → B i → B' i) where
  -- until
  pub until_carried : (i : ℕ) → 1 ≤ i → UntilAt A B n i → UntilAt A' B' n i
  until_carried i low u =
      let p = u.1 in
      let q = u.2 in
      (u.0, p, q, too u.0 (omega arith) q u.3, λ k l m. to k (omega arith) (omega arith) (u.4 k l m))

  -- since
  pub since_carried : (i : ℕ) → i ≤ n → SinceAt A B i → SinceAt A' B' i
  since_carried i high u =
      let p = u.1 in
      let q = u.2 in
      (u.0, p, q, too u.0 p (omega arith) u.3, λ k l m. to k (omega arith) (omega arith) (u.4 k l m))

  -- a row, whose first operand is asked for the other way by a not
  pub carried : (from : (i : ℕ) → 1 ≤ i → i ≤ n → A' i → A i) (x : Row) (s i : ℕ) → 1 ≤ i → i ≤ n → HoldsAt x s A B n i → HoldsAt x s A' B' n i
  carried from row.True s i low high h = tt
  carried from row.False s i low high h = h
  carried from (row.Symbol k) s i low high h = h
  carried from (row.Not a) s i low high h = λ x. h (from i low high x)
  carried from (row.And a b) s i low high h = (to i low high h.0, too i low high h.1)
  carried from (row.Or a b) s i low high h = ⊎_elim (λ (x : A i). inl (to i low high x)) (λ (x : B i). inr (too i low high x)) h
  carried from (row.Next a) s i low high h = let l = h.0 in (l, to (i + 1) (omega arith) (omega arith) h.1)
  carried from (row.Yest a) s i low high h = let l = h.0 in (l, to (i - 1) (omega arith) (omega arith) h.1)
  carried from (row.Until a b) s i low high h = until_carried i low h
  carried from (row.Since a b) s i low high h = since_carried i high h
  carried from row.Start s i low high h = h
  carried from row.End s i low high h = h
