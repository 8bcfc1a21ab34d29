-- The rows of a formula by the shape of its text. Assumes nothing.
use Rattle.std.proofs.Common.{◌≡◌, ℕ, ◌+◌, ◌<◌, [], ◌∷◌, ◌++◌, length, sym, refl, ap, ◌∙◌, arith, length-append}
use Rattle.sheet.specs.Formulas.{Formula}
use Rattle.text.specs.declared.term.Leaf.{Leaf}
use Rattle.text.specs.declared.term.Leaf.TheVariants.{True, False, Start, End, Symbol}
use Rattle.text.specs.declared.term.Unary.{Unary}
use Rattle.text.specs.declared.term.Unary.TheVariants.{Not, Next, Yest}
use Rattle.text.specs.declared.term.Binary.{Binary}
use Rattle.text.specs.declared.term.Binary.TheVariants.{And, Or, Until, Since}
use Rattle.text.specs.Adding.{size, own, rows_for}
use Rattle.text.specs.Trees.{Tree, leaf, one, two, meant, leaf_meant, one_meant, two_meant, leaf_row, one_row, two_row}

-- the row of a leaf
pub rows_leaf : (l : Leaf) (n : ℕ) → rows_for (leaf_meant l) n ≡ leaf_row l ∷ []
rows_leaf True n = refl
rows_leaf False n = refl
rows_leaf Start n = refl
rows_leaf End n = refl
rows_leaf (Symbol s) n = refl

-- the rows of a group of one operand
pub rows_one : (u : Unary) (a : Formula) (n : ℕ) → rows_for (one_meant u a) n ≡ rows_for a n ++ one_row u (own a n) ∷ []
rows_one Not a n = refl
rows_one Next a n = refl
rows_one Yest a n = refl

-- the rows of a group of two operands
pub rows_two : (o : Binary) (a b : Formula) (n : ℕ) → rows_for (two_meant o a b) n ≡ (rows_for a n ++ rows_for b (n + size a)) ++ two_row o (own a n) (own b (n + size a)) ∷ []
rows_two And a b n = refl
rows_two Or a b n = refl
rows_two Until a b n = refl
rows_two Since a b n = refl

-- a leaf has one row
pub size_leaf : (l : Leaf) → size (leaf_meant l) ≡ 1
size_leaf True = refl
size_leaf False = refl
size_leaf Start = refl
size_leaf End = refl
size_leaf (Symbol s) = refl

-- a group of one operand has one row more than it
pub size_one : (u : Unary) (a : Formula) → size (one_meant u a) ≡ size a + 1
size_one Not a = refl
size_one Next a = refl
size_one Yest a = refl

-- a group of two operands has one row more than they
pub size_two : (o : Binary) (a b : Formula) → size (two_meant o a b) ≡ size a + size b + 1
size_two And a b = refl
size_two Or a b = refl
size_two Until a b = refl
size_two Since a b = refl

-- every formula has a row
pub some_rows : (t : Tree) → 0 < size (meant t)
some_rows (leaf l) = omega (arith, size_leaf l)
some_rows (one u t) = omega (arith, size_one u (meant t))
some_rows (two t o s) = omega (arith, size_two o (meant t) (meant s))

-- a formula has as many rows as parts
pub length_rows : (t : Tree) (n : ℕ) → length (rows_for (meant t) n) ≡ size (meant t)
length_rows (leaf l) n = ap length (rows_leaf l n) ∙ sym (size_leaf l)
length_rows (one u t) n =
    let a = meant t in
    let many = length_rows t n in
    let long = length-append (rows_for a n) (one_row u (own a n) ∷ []) in
    ap length (rows_one u a n) ∙ omega (arith, size_one u a)
length_rows (two t o s) n =
    let a = meant t in
    let b = meant s in
    let left = length_rows t n in
    let right = length_rows s (n + size a) in
    let both = length-append (rows_for a n) (rows_for b (n + size a)) in
    let long = length-append (rows_for a n ++ rows_for b (n + size a)) (two_row o (own a n) (own b (n + size a)) ∷ []) in
    ap length (rows_two o a b n) ∙ omega (arith, size_two o a b)
