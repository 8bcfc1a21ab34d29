-- Formulas of linear temporal logic with past, their classes and their mirrors.
use Rattle.std.specs.Prelude.{ℕ}
use Rattle.sheet.specs.Classes.{joined}
use Rattle.sheet.specs.declared.row.Class.{Class}
use Rattle.sheet.specs.declared.row.Class.TheVariants.{Present, Past, Future}

-- a formula as a tree
pub data Formula : Type 0 where
  True : Formula
  False : Formula
  Symbol : ℕ → Formula
  Not : Formula → Formula
  And : Formula → Formula → Formula
  Or : Formula → Formula → Formula
  Next : Formula → Formula
  Yest : Formula → Formula
  Until : Formula → Formula → Formula
  Since : Formula → Formula → Formula
  Start : Formula
  End : Formula

-- true, false and symbol are present; start, yest and since are past; end, next and until are future;
-- not, and, or are what their operands make them
abbrev pub class : Formula → Class
class True = Present
class False = Present
class (Symbol s) = Present
class (Not a) = class a
class (And a b) = joined (class a) (class b)
class (Or a b) = joined (class a) (class b)
class (Next a) = Future
class (Yest a) = Past
class (Until a b) = Future
class (Since a b) = Past
class Start = Past
class End = Future

-- next for yest, until for since, start for end, and each the other way
abbrev pub mirror : Formula → Formula
mirror True = True
mirror False = False
mirror (Symbol s) = Symbol s
mirror (Not a) = Not (mirror a)
mirror (And a b) = And (mirror a) (mirror b)
mirror (Or a b) = Or (mirror a) (mirror b)
mirror (Next a) = Yest (mirror a)
mirror (Yest a) = Next (mirror a)
mirror (Until a b) = Since (mirror a) (mirror b)
mirror (Since a b) = Until (mirror a) (mirror b)
mirror Start = End
mirror End = Start
