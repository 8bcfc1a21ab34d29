-- Formulas by the shape of their text: no group, a group of one operand, a group of two. No public contract cites this file. Assumes nothing.
use Rattle.std.specs.Prelude.{ℕ, zero, suc, ◌<◌, List, ◌∷◌, codes}
use Rattle.sheet.specs.Formulas as formula
use Rattle.sheet.specs.Formulas.{Formula}
use Rattle.sheet.specs.declared.row.Row.{Row}
use Rattle.sheet.specs.declared.row.Row.TheVariants as row
use Rattle.text.specs.Grammar.{decimal}
use Rattle.text.specs.declared.term.Leaf.{Leaf}
use Rattle.text.specs.declared.term.Leaf.TheVariants.{True, False, Start, End, Symbol}
use Rattle.text.specs.declared.term.Unary.{Unary}
use Rattle.text.specs.declared.term.Unary.TheVariants.{Not, Next, Yest}
use Rattle.text.specs.declared.term.Binary.{Binary}
use Rattle.text.specs.declared.term.Binary.TheVariants.{And, Or, Until, Since}

-- a formula by the shape of its text
pub data Tree : Type 0 where
  leaf : Leaf → Tree
  one : Unary → Tree → Tree
  two : Tree → Binary → Tree → Tree

-- the formula of a leaf
abbrev pub leaf_meant : Leaf → Formula
leaf_meant True = formula.True
leaf_meant False = formula.False
leaf_meant Start = formula.Start
leaf_meant End = formula.End
leaf_meant (Symbol n) = formula.Symbol n

-- the formula of a group of one operand
abbrev pub one_meant : Unary → Formula → Formula
one_meant Not a = formula.Not a
one_meant Next a = formula.Next a
one_meant Yest a = formula.Yest a

-- the formula of a group of two operands
abbrev pub two_meant : Binary → Formula → Formula → Formula
two_meant And a b = formula.And a b
two_meant Or a b = formula.Or a b
two_meant Until a b = formula.Until a b
two_meant Since a b = formula.Since a b

-- the formula of a tree
abbrev pub meant : Tree → Formula
meant (leaf l) = leaf_meant l
meant (one u f) = one_meant u (meant f)
meant (two f b g) = two_meant b (meant f) (meant g)

-- the row of a leaf
abbrev pub leaf_row : Leaf → Row
leaf_row True = row.True
leaf_row False = row.False
leaf_row Start = row.Start
leaf_row End = row.End
leaf_row (Symbol n) = row.Symbol n

-- the row of a group over the row a
abbrev pub one_row : Unary → ℕ → Row
one_row Not a = row.Not a
one_row Next a = row.Next a
one_row Yest a = row.Yest a

-- the row of a group over the rows a and b
abbrev pub two_row : Binary → ℕ → ℕ → Row
two_row And a b = row.And a b
two_row Or a b = row.Or a b
two_row Until a b = row.Until a b
two_row Since a b = row.Since a b

-- the text of a leaf
abbrev pub leaf_text : Leaf → List ℕ
leaf_text True = codes "true"
leaf_text False = codes "false"
leaf_text Start = codes "start"
leaf_text End = codes "end"
leaf_text (Symbol n) = 115 ∷ decimal n

-- the word of a group of one operand
abbrev pub unary_text : Unary → List ℕ
unary_text Not = codes "not"
unary_text Next = codes "next"
unary_text Yest = codes "yest"

-- the word of a group of two operands
abbrev pub binary_text : Binary → List ℕ
binary_text And = codes "and"
binary_text Or = codes "or"
binary_text Until = codes "until"
binary_text Since = codes "since"

-- a number has at most two digits
abbrev pub Small : Leaf → Type 0
Small True = Unit {0}
Small False = Unit {0}
Small Start = Unit {0}
Small End = Unit {0}
Small (Symbol n) = n < 100

-- groups stand at most d deep inside one another, and each number has at most two digits
abbrev pub TreeWithin : ℕ → Tree → Type 0
TreeWithin d (leaf l) = Small l
TreeWithin zero (one u f) = ⊥
TreeWithin (suc d) (one u f) = TreeWithin d f
TreeWithin zero (two f b g) = ⊥
TreeWithin (suc d) (two f b g) = TreeWithin d f × TreeWithin d g
