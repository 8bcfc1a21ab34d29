-- Which way a formula looks, and the number of a refusal.
use Rattle.std.specs.Prelude.{ℕ, true, false, ◌||◌, Some, None, Option}
use Rattle.sheet.specs.Refusals.{code}
use Rattle.sheet.specs.declared.refusal.Refusal.{Refusal}
use Rattle.sheet.specs.declared.row.Class.{Class}
use Rattle.sheet.specs.declared.row.Class.TheVariants.{Present, Past, Future, Mixed}
use Rattle.sheet.specs.declared.row.Row.{Row}
use Rattle.sheet.specs.declared.row.Row.TheVariants as row
use Rattle.evaluator.specs.declared.refusals.Looks.{Looks}

-- the ways that a formula of a class looks
abbrev pub looks : Class → Looks
looks Present = record { back = false; ahead = false }
looks Past = record { back = true; ahead = false }
looks Future = record { back = false; ahead = true }
looks Mixed = record { back = true; ahead = true }

-- the ways that either of two looks
abbrev pub both : Looks → Looks → Looks
both a b = record { back = a.back || b.back; ahead = a.ahead || b.ahead }

-- the ways that a row's formula looks, whose operands look the ways a and b
abbrev pub looks_by : Row → Looks → Looks → Looks
looks_by row.True a b = looks Present
looks_by row.False a b = looks Present
looks_by (row.Symbol s) a b = looks Present
looks_by (row.Not x) a b = a
looks_by (row.And x y) a b = both a b
looks_by (row.Or x y) a b = both a b
looks_by (row.Next x) a b = looks Future
looks_by (row.Yest x) a b = looks Past
looks_by (row.Until x y) a b = looks Future
looks_by (row.Since x y) a b = looks Past
looks_by row.Start a b = looks Past
looks_by row.End a b = looks Future

-- the operands that say which way a row looks: not, and, or look as theirs do, and every other row looks its own way
abbrev pub looked_through : Row → Option ℕ × Option ℕ
looked_through row.True = (None, None)
looked_through row.False = (None, None)
looked_through (row.Symbol s) = (None, None)
looked_through (row.Not x) = (Some x, None)
looked_through (row.And x y) = (Some x, Some y)
looked_through (row.Or x y) = (Some x, Some y)
looked_through (row.Next x) = (None, None)
looked_through (row.Yest x) = (None, None)
looked_through (row.Until x y) = (None, None)
looked_through (row.Since x y) = (None, None)
looked_through row.Start = (None, None)
looked_through row.End = (None, None)

-- the number of a refusal, and 0 where there is none
abbrev pub number_of : Option Refusal → ℕ
number_of None = 0
number_of (Some x) = (code x).number
