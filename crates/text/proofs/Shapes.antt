-- Formulas and the shapes of their texts are the same things. Assumes nothing.
use Rattle.std.proofs.Common.{◌≡◌, ℕ, zero, suc, sym, refl, ap, subst}
use Rattle.sheet.specs.Formulas as formula
use Rattle.sheet.specs.Formulas.{Formula}
use Rattle.text.specs.declared.term.Leaf.{Leaf}
use Rattle.text.specs.declared.term.Leaf.TheVariants.{True, False, Start, End, Symbol}
use Rattle.text.specs.declared.term.Unary.{Unary}
use Rattle.text.specs.declared.term.Unary.TheVariants.{Not, Next, Yest}
use Rattle.text.specs.declared.term.Binary.{Binary}
use Rattle.text.specs.declared.term.Binary.TheVariants.{And, Or, Until, Since}
use Rattle.text.specs.Grammar.{written, group_one, group_two, Group, Within}
use Rattle.text.specs.Trees.{Tree, leaf, one, two, meant, leaf_meant, one_meant, two_meant, leaf_text, unary_text, binary_text, Small, TreeWithin}

-- the shape of a formula
abbrev pub shaped : Formula → Tree
shaped formula.True = leaf True
shaped formula.False = leaf False
shaped formula.Start = leaf Start
shaped formula.End = leaf End
shaped (formula.Symbol n) = leaf (Symbol n)
shaped (formula.Not a) = one Not (shaped a)
shaped (formula.Next a) = one Next (shaped a)
shaped (formula.Yest a) = one Yest (shaped a)
shaped (formula.And a b) = two (shaped a) And (shaped b)
shaped (formula.Or a b) = two (shaped a) Or (shaped b)
shaped (formula.Until a b) = two (shaped a) Until (shaped b)
shaped (formula.Since a b) = two (shaped a) Since (shaped b)

-- a formula's shape means the formula
pub meant_shaped : (f : Formula) → meant (shaped f) ≡ f
meant_shaped formula.True = refl
meant_shaped formula.False = refl
meant_shaped formula.Start = refl
meant_shaped formula.End = refl
meant_shaped (formula.Symbol n) = refl
meant_shaped (formula.Not a) = ap formula.Not (meant_shaped a)
meant_shaped (formula.Next a) = ap formula.Next (meant_shaped a)
meant_shaped (formula.Yest a) = ap formula.Yest (meant_shaped a)
meant_shaped (formula.And a b) = λ i. formula.And (meant_shaped a i) (meant_shaped b i)
meant_shaped (formula.Or a b) = λ i. formula.Or (meant_shaped a i) (meant_shaped b i)
meant_shaped (formula.Until a b) = λ i. formula.Until (meant_shaped a i) (meant_shaped b i)
meant_shaped (formula.Since a b) = λ i. formula.Since (meant_shaped a i) (meant_shaped b i)

-- the text of a leaf
pub leaf_written : (l : Leaf) → leaf_text l ≡ written (leaf_meant l)
leaf_written True = refl
leaf_written False = refl
leaf_written Start = refl
leaf_written End = refl
leaf_written (Symbol n) = refl

-- the text of a group of one operand
pub one_written : (u : Unary) (a : Formula) → group_one (unary_text u) (written a) ≡ written (one_meant u a)
one_written Not a = refl
one_written Next a = refl
one_written Yest a = refl

-- the text of a group of two operands
pub two_written : (o : Binary) (a b : Formula) → group_two (written a) (binary_text o) (written b) ≡ written (two_meant o a b)
two_written And a b = refl
two_written Or a b = refl
two_written Until a b = refl
two_written Since a b = refl

-- a leaf's bound is its formula's
leaf_within : (l : Leaf) (d : ℕ) → Small l ≡ Within d (leaf_meant l)
leaf_within True d = refl
leaf_within False d = refl
leaf_within Start d = refl
leaf_within End d = refl
leaf_within (Symbol n) d = refl

-- the bound of a group of one operand
one_within : (u : Unary) (a : Formula) (d : ℕ) → Group d (λ e. Within e a) ≡ Within d (one_meant u a)
one_within Not a d = refl
one_within Next a d = refl
one_within Yest a d = refl

-- the bound of a group of two operands
two_within : (o : Binary) (a b : Formula) (d : ℕ) → Group d (λ e. Within e a × Within e b) ≡ Within d (two_meant o a b)
two_within And a b d = refl
two_within Or a b d = refl
two_within Until a b d = refl
two_within Since a b d = refl

-- from one type to an equal one
cast : {A B : Type 0} → A ≡ B → A → B
cast e a = subst (λ (X : Type 0). X) e a

-- a shape within d deep is a formula within d deep
pub within_up : (t : Tree) (d : ℕ) → TreeWithin d t → Within d (meant t)
within_up (leaf l) d w = cast (leaf_within l d) w
within_up (one u t) zero w = absurd w
within_up (one u t) (suc d) w = cast (one_within u (meant t) (suc d)) (within_up t d w)
within_up (two t o s) zero w = absurd w
within_up (two t o s) (suc d) w = cast (two_within o (meant t) (meant s) (suc d)) (within_up t d w.0, within_up s d w.1)

-- and the other way
pub within_down : (t : Tree) (d : ℕ) → Within d (meant t) → TreeWithin d t
within_down (leaf l) d w = cast (sym (leaf_within l d)) w
within_down (one u t) zero w = cast (sym (one_within u (meant t) zero)) w
within_down (one u t) (suc d) w = within_down t d (cast (sym (one_within u (meant t) (suc d))) w)
within_down (two t o s) zero w = cast (sym (two_within o (meant t) (meant s) zero)) w
within_down (two t o s) (suc d) w = let p = cast (sym (two_within o (meant t) (meant s) (suc d))) w in (within_down t d p.0, within_down s d p.1)
