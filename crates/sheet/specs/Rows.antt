-- One row over the rows before it, and one rule.
use Rattle.std.specs.Prelude.{ℕ, Bool, true, cond, ◌&&◌, List, length, Some, None, Option, nat_lt, slice_index_or}
use Rattle.sheet.specs.Classes.{joined, present_or_past, present_or_future}
use Rattle.sheet.specs.Formulas.{Formula, True, False, Symbol, Not, And, Or, Next, Yest, Until, Since, Start, End}
use Rattle.sheet.specs.Limits.{max_rows, symbols}
use Rattle.sheet.specs.declared.refusal.Refusal.{Refusal}
use Rattle.sheet.specs.declared.refusal.Refusal.TheVariants.{SheetFull, BadOperand, Unseparated}
use Rattle.sheet.specs.declared.row.Class.{Class}
use Rattle.sheet.specs.declared.row.Class.TheVariants.{Present, Past, Future}
use Rattle.sheet.specs.declared.row.Row.{Row}
use Rattle.sheet.specs.declared.row.Row.TheVariants as row
use Rattle.sheet.specs.declared.row.Rule.{Rule}

-- the operands are among the first n rows, and a symbol is one
abbrev pub there : ℕ → Row → Bool
there n row.True = true
there n row.False = true
there n (row.Symbol s) = nat_lt s symbols
there n (row.Not a) = nat_lt a n
there n (row.And a b) = nat_lt a n && nat_lt b n
there n (row.Or a b) = nat_lt a n && nat_lt b n
there n (row.Next a) = nat_lt a n
there n (row.Yest a) = nat_lt a n
there n (row.Until a b) = nat_lt a n && nat_lt b n
there n (row.Since a b) = nat_lt a n && nat_lt b n
there n row.Start = true
there n row.End = true

-- the class of the row numbered a, where the rows have these classes; one that is not there counts as present
abbrev pub class_at : List Class → ℕ → Class
class_at cs a = slice_index_or cs a Present

-- yest and since take only present or past operands, next and until only present or future ones
abbrev pub separated : List Class → Row → Bool
separated cs row.True = true
separated cs row.False = true
separated cs (row.Symbol s) = true
separated cs (row.Not a) = true
separated cs (row.And a b) = true
separated cs (row.Or a b) = true
separated cs (row.Next a) = present_or_future (class_at cs a)
separated cs (row.Yest a) = present_or_past (class_at cs a)
separated cs (row.Until a b) = present_or_future (class_at cs a) && present_or_future (class_at cs b)
separated cs (row.Since a b) = present_or_past (class_at cs a) && present_or_past (class_at cs b)
separated cs row.Start = true
separated cs row.End = true

-- the class of a row, from those of the rows before it
abbrev pub row_class : List Class → Row → Class
row_class cs row.True = Present
row_class cs row.False = Present
row_class cs (row.Symbol s) = Present
row_class cs (row.Not a) = class_at cs a
row_class cs (row.And a b) = joined (class_at cs a) (class_at cs b)
row_class cs (row.Or a b) = joined (class_at cs a) (class_at cs b)
row_class cs (row.Next a) = Future
row_class cs (row.Yest a) = Past
row_class cs (row.Until a b) = Future
row_class cs (row.Since a b) = Past
row_class cs row.Start = Past
row_class cs row.End = Future

-- why a row may not follow rows of these classes: the sheet is full, an operand or a symbol is not there,
-- an operand's class is not taken; the first of these
abbrev pub row_refusal : List Class → Row → Option Refusal
row_refusal cs r =
    cond (nat_lt (length cs) max_rows)
    (cond (there (length cs) r)
    (cond (separated cs r) None (Some Unseparated))
    (Some BadOperand))
    (Some SheetFull)

-- both rows of a rule are among the first n
abbrev pub rule_there : ℕ → Rule → Bool
rule_there n r = nat_lt r.activator n && nat_lt r.target n

-- the formula of a row, from those of the rows before it
abbrev pub build : List Formula → Row → Formula
build fs row.True = True
build fs row.False = False
build fs (row.Symbol s) = Symbol s
build fs (row.Not a) = Not (slice_index_or fs a False)
build fs (row.And a b) = And (slice_index_or fs a False) (slice_index_or fs b False)
build fs (row.Or a b) = Or (slice_index_or fs a False) (slice_index_or fs b False)
build fs (row.Next a) = Next (slice_index_or fs a False)
build fs (row.Yest a) = Yest (slice_index_or fs a False)
build fs (row.Until a b) = Until (slice_index_or fs a False) (slice_index_or fs b False)
build fs (row.Since a b) = Since (slice_index_or fs a False) (slice_index_or fs b False)
build fs row.Start = Start
build fs row.End = End

-- next for yest, until for since, start for end, and each the other way; operands keep their places
abbrev pub mirror_row : Row → Row
mirror_row row.True = row.True
mirror_row row.False = row.False
mirror_row (row.Symbol s) = row.Symbol s
mirror_row (row.Not a) = row.Not a
mirror_row (row.And a b) = row.And a b
mirror_row (row.Or a b) = row.Or a b
mirror_row (row.Next a) = row.Yest a
mirror_row (row.Yest a) = row.Next a
mirror_row (row.Until a b) = row.Since a b
mirror_row (row.Since a b) = row.Until a b
mirror_row row.Start = row.End
mirror_row row.End = row.Start
