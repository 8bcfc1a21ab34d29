-- The rows of a formula mean the formula. Assumes nothing.
use Rattle.std.proofs.Common.{◌≡◌, ℕ, ◌+◌, ◌<◌, List, [], ◌∷◌, ◌++◌, length, get_or, sym, refl, ap, ◌∙◌, subst, append_assoc, arith, length-append}
use Rattle.std.proofs.lemmas.List.{get_or_append_left, get_or_push, length_push}
use Rattle.sheet.specs.Formulas.{Formula, False}
use Rattle.sheet.specs.Rows.{build}
use Rattle.sheet.specs.Sheets.{formulas_from, formulas}
use Rattle.sheet.specs.declared.row.Row.{Row}
use Rattle.sheet.proofs.Built.{formulas_push, length_formulas}
use Rattle.text.specs.declared.term.Leaf.{Leaf}
use Rattle.text.specs.declared.term.Leaf.TheVariants.{True, False as False-leaf, Start, End, Symbol}
use Rattle.text.specs.declared.term.Unary.{Unary}
use Rattle.text.specs.declared.term.Unary.TheVariants.{Not, Next, Yest}
use Rattle.text.specs.declared.term.Binary.{Binary}
use Rattle.text.specs.declared.term.Binary.TheVariants.{And, Or, Until, Since}
use Rattle.text.specs.Grammar.{RuleFormulas}
use Rattle.text.specs.Adding.{size, own, rows_for}
use Rattle.text.specs.Laws.{Means}
use Rattle.text.specs.Trees.{Tree, leaf, one, two, meant, leaf_meant, one_meant, two_meant, leaf_row, one_row, two_row}
use Rattle.text.proofs.Shapes.{shaped, meant_shaped}
use Rattle.text.proofs.Sizes.{rows_leaf, rows_one, rows_two, size_leaf, size_one, size_two, some_rows}

-- the formulas of rows in two parts
formulas_append : (fs : List Formula) (xs ys : List Row) → formulas_from fs (xs ++ ys) ≡ formulas_from (formulas_from fs xs) ys
formulas_append fs [] ys = refl
formulas_append fs (x ∷ xs) ys = formulas_append (fs ++ build fs x ∷ []) xs ys

-- what a leaf's row builds
build_leaf : (fs : List Formula) (l : Leaf) → build fs (leaf_row l) ≡ leaf_meant l
build_leaf fs True = refl
build_leaf fs False-leaf = refl
build_leaf fs Start = refl
build_leaf fs End = refl
build_leaf fs (Symbol s) = refl

-- what the row of a group of one operand builds
build_one : (fs : List Formula) (u : Unary) (a : ℕ) → build fs (one_row u a) ≡ one_meant u (get_or fs a False)
build_one fs Not a = refl
build_one fs Next a = refl
build_one fs Yest a = refl

-- what the row of a group of two operands builds
build_two : (fs : List Formula) (o : Binary) (a b : ℕ) → build fs (two_row o a b) ≡ two_meant o (get_or fs a False) (get_or fs b False)
build_two fs And a b = refl
build_two fs Or a b = refl
build_two fs Until a b = refl
build_two fs Since a b = refl

-- the formulas of a formula's rows, after the formulas fs of earlier rows: the last is the formula
record Built (fs : List Formula) (t : Tree) : Type 0 where
  more : List Formula
  all : formulas_from fs (rows_for (meant t) (length fs)) ≡ fs ++ more
  many : length more ≡ size (meant t)
  last : get_or (fs ++ more) (own (meant t) (length fs)) False ≡ meant t

-- one row more, which builds the formula f
one_more : (fs more : List Formula) (f : Formula) (k : ℕ) → k ≡ length fs + length more → get_or (fs ++ (more ++ f ∷ [])) k False ≡ f
one_more fs more f k e = ap (λ (z : List Formula). get_or z k False) (sym (append_assoc fs more (f ∷ []))) ∙ get_or_push (fs ++ more) f False k (length-append fs more ∙ sym e)

-- the rows of each formula build it
built : (fs : List Formula) (t : Tree) → Built fs t
built fs (leaf l) = record {
  more = leaf_meant l ∷ [];
  all = ap (formulas_from fs) (rows_leaf l (length fs)) ∙ ap (λ f. fs ++ f ∷ []) (build_leaf fs l);
  many = sym (size_leaf l);
  last = one_more fs [] (leaf_meant l) (own (leaf_meant l) (length fs)) (omega (arith, size_leaf l));
}
built fs (one u t) =
    let n = length fs in
    let a = meant t in
    let b = built fs t in
    let f = one_meant u a in
    record {
      more = b.more ++ f ∷ [];
      all = ap (formulas_from fs) (rows_one u a n) ∙ formulas_push fs (rows_for a n) (one_row u (own a n))
          ∙ (λ i. b.all i ++ build (b.all i) (one_row u (own a n)) ∷ [])
          ∙ ap (λ g. (fs ++ b.more) ++ g ∷ []) (build_one (fs ++ b.more) u (own a n) ∙ ap (one_meant u) b.last)
          ∙ append_assoc fs b.more (f ∷ []);
      many = length_push b.more f ∙ omega (arith, b.many, size_one u a);
      last = one_more fs b.more f (own f n) (omega (arith, b.many, size_one u a));
    }
built fs (two t o s) =
    let n = length fs in
    let a = meant t in
    let c = meant s in
    let b = built fs t in
    let gs = fs ++ b.more in
    let long : length gs ≡ n + size a = length-append fs b.more ∙ ap (λ k. n + k) b.many in
    let d = built gs s in
    let hs = gs ++ d.more in
    let f = two_meant o a c in
    let front = rows_for a n in
    let back = rows_for c (n + size a) in
    let both : formulas_from fs (front ++ back) ≡ hs = formulas_append fs front back ∙ (λ i. formulas_from (b.all i) (rows_for c (sym long i))) ∙ d.all in
    let left : get_or hs (own a n) False ≡ a = get_or_append_left gs d.more False (own a n) (omega (arith, long, some_rows t)) ∙ b.last in
    let right : get_or hs (own c (n + size a)) False ≡ c = ap (λ k. get_or hs (own c k) False) (sym long) ∙ d.last in
    let join : hs ≡ fs ++ (b.more ++ d.more) = append_assoc fs b.more d.more in
    let r = two_row o (own a n) (own c (n + size a)) in
    let total : length (b.more ++ d.more) ≡ size a + size c = length-append b.more d.more ∙ (λ i. b.many i + d.many i) in
    record {
      more = (b.more ++ d.more) ++ f ∷ [];
      all = ap (formulas_from fs) (rows_two o a c n) ∙ formulas_push fs (front ++ back) r
          ∙ (λ i. both i ++ build (both i) r ∷ [])
          ∙ ap (λ g. hs ++ g ∷ []) (build_two hs o (own a n) (own c (n + size a)) ∙ (λ i. two_meant o (left i) (right i)))
          ∙ ap (λ (z : List Formula). z ++ f ∷ []) join
          ∙ append_assoc fs (b.more ++ d.more) (f ∷ []);
      many = length_push (b.more ++ d.more) f ∙ omega (arith, total, size_two o a c);
      last = one_more fs (b.more ++ d.more) f (own f n) (omega (arith, total, size_two o a c));
    }

-- the rows of a rule whose formulas have these shapes
tree_means : (rows : List Row) (t s : Tree) → Means rows (record { activator = meant t; target = meant s })
tree_means rows t s =
    let n = length rows in
    let a = meant t in
    let c = meant s in
    let fs = formulas rows in
    let count : length fs ≡ n = length_formulas [] rows ∙ omega arith in
    let b = built fs t in
    let gs = fs ++ b.more in
    let long : length gs ≡ n + size a = length-append fs b.more ∙ (λ i. count i + b.many i) in
    let d = built gs s in
    let hs = gs ++ d.more in
    let front = rows_for a n in
    let back = rows_for c (n + size a) in
    let all : formulas (rows ++ (front ++ back)) ≡ hs =
    formulas_append [] rows (front ++ back)
    ∙ formulas_append fs front back
    ∙ ap (λ k. formulas_from (formulas_from fs (rows_for a k)) back) (sym count)
    ∙ (λ i. formulas_from (b.all i) (rows_for c (sym long i)))
    ∙ d.all in
    record {
      activator = ap (λ (z : List Formula). get_or z (own a n) False) all
          ∙ get_or_append_left gs d.more False (own a n) (omega (arith, long, some_rows t))
          ∙ ap (λ k. get_or gs (own a k) False) (sym count) ∙ b.last;
      target = ap (λ (z : List Formula). get_or z (own c (n + size a)) False) all ∙ ap (λ k. get_or hs (own c k) False) (sym long) ∙ d.last;
      before = λ k lt.
          let in-fs : k < length fs = omega (arith, count) in
          let in-gs : k < length gs = omega (arith, count, long) in
          ap (λ (z : List Formula). get_or z k False) all
          ∙ get_or_append_left gs d.more False k in-gs
          ∙ get_or_append_left fs b.more False k in-fs;
    }

-- the rows of each rule mean its formulas
pub means : (rows : List Row) (r : RuleFormulas) → Means rows r
means rows r =
    let same : record { activator = meant (shaped r.activator); target = meant (shaped r.target) } ≡ r = λ i. record { activator = meant_shaped r.activator i; target = meant_shaped r.target i } in
    subst (Means rows) same (tree_means rows (shaped r.activator) (shaped r.target))
