-- Each row of a well-formed sheet: its operands come before it, its class and its formula are made of theirs.
use Rattle.std.proofs.Common.{◌≡◌, ℕ, zero, suc, ◌+◌, ◌<◌, true, ◌&&◌, ltb, List, [], ◌∷◌, ◌++◌, map, length, get_or, sym, refl, ap, ◌∙◌, zero-add, arith}
use Rattle.std.proofs.lemmas.List.{length_push, get_or_append_left, get_or_push}
use Rattle.std.proofs.lemmas.Bool.{and_parts, ltb-true}
use Rattle.sheet.specs.Formulas.{Formula, False, class}
use Rattle.sheet.specs.Rows.{there, separated, row_class, class_at, build}
use Rattle.sheet.specs.Sheets.{formulas_from, formulas, formed_from, formed, classes_of}
use Rattle.sheet.specs.declared.row.Row.{Row}
use Rattle.sheet.specs.declared.row.Row.TheVariants as row
use Rattle.sheet.proofs.Built.{class_get_or, class_build}

-- the operand of a row that is there
pub one_there : (a n : ℕ) → ltb a n ≡ true → a < n
one_there a n h = ltb-true a n h

-- both operands of a row that is there
pub two_there : (a b n : ℕ) → (ltb a n && ltb b n) ≡ true → (a < n) × (b < n)
two_there a b n h =
    let p = and_parts (ltb a n) (ltb b n) h in
    (ltb-true a n p.0, ltb-true b n p.1)

-- the formulas of earlier rows stay
prefix : (fs : List Formula) (rows : List Row) (a : ℕ) → a < length fs → get_or (formulas_from fs rows) a False ≡ get_or fs a False
prefix fs [] a h = refl
prefix fs (x ∷ rows) a h =
    let one = length_push fs (build fs x) in
    prefix (fs ++ build fs x ∷ []) rows a (omega arith) ∙ get_or_append_left fs (build fs x ∷ []) False a h

-- the second list has what the first has, as far as that goes
abbrev Agree : List Formula → List Formula → Type 0
Agree fs gs = (a : ℕ) → a < length fs → get_or gs a False ≡ get_or fs a False

-- a row builds the same formula from lists that agree on its operands
build_agree : (fs gs : List Formula) (x : Row) → there (length fs) x ≡ true → Agree fs gs → build gs x ≡ build fs x
build_agree fs gs row.True t h = refl
build_agree fs gs row.False t h = refl
build_agree fs gs (row.Symbol s) t h = refl
build_agree fs gs (row.Not a) t h = rw (h a (one_there a (length fs) t))
build_agree fs gs (row.And a b) t h = let p = two_there a b (length fs) t in rw (h a p.0, h b p.1)
build_agree fs gs (row.Or a b) t h = let p = two_there a b (length fs) t in rw (h a p.0, h b p.1)
build_agree fs gs (row.Next a) t h = rw (h a (one_there a (length fs) t))
build_agree fs gs (row.Yest a) t h = rw (h a (one_there a (length fs) t))
build_agree fs gs (row.Until a b) t h = let p = two_there a b (length fs) t in rw (h a p.0, h b p.1)
build_agree fs gs (row.Since a b) t h = let p = two_there a b (length fs) t in rw (h a p.0, h b p.1)
build_agree fs gs row.Start t h = refl
build_agree fs gs row.End t h = refl

-- an operand has the same class in lists that agree
class_agree : (fs gs : List Formula) (a : ℕ) → a < length fs → Agree fs gs → class_at (map class gs) a ≡ class_at (map class fs) a
class_agree fs gs a l h = sym (class_get_or gs a) ∙ (ap class (h a l) ∙ class_get_or fs a)

-- a row passes the test of classes alike over lists that agree
separated_agree : (fs gs : List Formula) (x : Row) → there (length fs) x ≡ true → Agree fs gs → separated (map class gs) x ≡ separated (map class fs) x
separated_agree fs gs row.True t h = refl
separated_agree fs gs row.False t h = refl
separated_agree fs gs (row.Symbol s) t h = refl
separated_agree fs gs (row.Not a) t h = refl
separated_agree fs gs (row.And a b) t h = refl
separated_agree fs gs (row.Or a b) t h = refl
separated_agree fs gs (row.Next a) t h = rw (class_agree fs gs a (one_there a (length fs) t) h)
separated_agree fs gs (row.Yest a) t h = rw (class_agree fs gs a (one_there a (length fs) t) h)
separated_agree fs gs (row.Until a b) t h = let p = two_there a b (length fs) t in rw (class_agree fs gs a p.0 h, class_agree fs gs b p.1 h)
separated_agree fs gs (row.Since a b) t h = let p = two_there a b (length fs) t in rw (class_agree fs gs a p.0 h, class_agree fs gs b p.1 h)
separated_agree fs gs row.Start t h = refl
separated_agree fs gs row.End t h = refl

-- what holds of the row numbered r
pub record Sound (fs : List Formula) (x : Row) (r : ℕ) : Type 0 where
  pub operands : there r x ≡ true
  pub classes : separated (map class fs) x ≡ true
  pub made : get_or fs r False ≡ build fs x

-- each row is sound, counted after earlier rows
sound_from : (fs : List Formula) (rows : List Row) (r : ℕ) (d : Row) → formed_from fs rows ≡ true → r < length rows → Sound (formulas_from fs rows) (get_or rows r d) (length fs + r)
sound_from fs [] r d h l = absurd (omega arith)
sound_from fs (x ∷ rows) zero d h l =
    let gs = fs ++ build fs x ∷ [] in
    let p = and_parts (there (length fs) x) (separated (map class fs) x && formed_from gs rows) h in
    let q = and_parts (separated (map class fs) x) (formed_from gs rows) p.1 in
    let one = length_push fs (build fs x) in
    let e : length fs + 0 ≡ length fs = omega arith in
    let same : Agree fs (formulas_from gs rows) = λ a k. prefix gs rows a (omega arith) ∙ get_or_append_left fs (build fs x ∷ []) False a k in
    let last : get_or (formulas_from gs rows) (length fs) False ≡ build fs x = prefix gs rows (length fs) (omega arith) ∙ get_or_push fs (build fs x) False (length fs) refl in
    rw e (record {
      operands = p.0;
      classes = separated_agree fs (formulas_from gs rows) x p.0 same ∙ q.0;
      made = last ∙ sym (build_agree fs (formulas_from gs rows) x p.0 same);
    })
sound_from fs (x ∷ rows) (suc r) d h l =
    let gs = fs ++ build fs x ∷ [] in
    let p = and_parts (there (length fs) x) (separated (map class fs) x && formed_from gs rows) h in
    let q = and_parts (separated (map class fs) x) (formed_from gs rows) p.1 in
    let one = length_push fs (build fs x) in
    let e : length gs + r ≡ length fs + suc r = omega arith in
    let rest : Sound (formulas_from gs rows) (get_or rows r d) (length gs + r) = sound_from gs rows r d q.1 (omega arith) in
    rw e at rest

-- each row of well-formed rows is sound
pub sound : (rows : List Row) (r : ℕ) (d : Row) → formed rows ≡ true → r < length rows → Sound (formulas rows) (get_or rows r d) r
sound rows r d h l =
    let s : Sound (formulas rows) (get_or rows r d) (0 + r) = sound_from [] rows r d h l in
    rw zero-add at s

-- the class of a row is that of its formula
pub class_row : (rows : List Row) (r : ℕ) (d : Row) → formed rows ≡ true → r < length rows → class_at (classes_of rows) r ≡ row_class (classes_of rows) (get_or rows r d)
class_row rows r d h l =
    sym (class_get_or (formulas rows) r) ∙ (ap class (sound rows r d h l).made ∙ class_build (formulas rows) (get_or rows r d))
