-- A sheet's rows together: their formulas, their classes, which lists of rows are well formed,
-- and what adding a row or a rule answers and leaves.
use Rattle.std.specs.Prelude.{ℕ, Bool, true, cond, ◌&&◌, List, [], ◌∷◌, ◌++◌, map, length, is_ok, Some, None, Ok, Err, Option, Result, nat_lt, slice_index_or}
use Rattle.sheet.specs.Formulas.{Formula, False, class}
use Rattle.sheet.specs.Limits.{max_rules}
use Rattle.sheet.specs.Rows.{there, separated, build, row_refusal, rule_there}
use Rattle.sheet.specs.declared.refusal.Refusal.{Refusal}
use Rattle.sheet.specs.declared.refusal.Refusal.TheVariants.{SheetFull, BadOperand}
use Rattle.sheet.specs.declared.row.Class.{Class}
use Rattle.sheet.specs.declared.row.Row.{Row}
use Rattle.sheet.specs.declared.row.Rule.{Rule}

-- the formulas of the rows, after those of earlier rows
abbrev pub formulas_from : List Formula → List Row → List Formula
formulas_from fs [] = fs
formulas_from fs (r ∷ rows) = formulas_from (fs ++ build fs r ∷ []) rows

-- the formulas of all rows
abbrev pub formulas : List Row → List Formula
formulas rows = formulas_from [] rows

-- the formula of the row numbered r
abbrev pub formula : List Row → ℕ → Formula
formula rows r = slice_index_or (formulas rows) r False

-- each row's operands are earlier rows, of classes that its kind takes; fs are the formulas of the rows before
abbrev pub formed_from : List Formula → List Row → Bool
formed_from fs [] = true
formed_from fs (r ∷ rows) = there (length fs) r && (separated (map class fs) r && formed_from (fs ++ build fs r ∷ []) rows)

-- the rows are well formed
abbrev pub formed : List Row → Bool
formed rows = formed_from [] rows

-- the class of each row: that of its formula
abbrev pub classes_of : List Row → List Class
classes_of rows = map class (formulas rows)

-- each rule's rows are among the first n
abbrev pub ruled : ℕ → List Rule → Bool
ruled n [] = true
ruled n (r ∷ rules) = rule_there n r && ruled n rules

-- the number, unless there is a refusal
abbrev pub unless : Option Refusal → ℕ → Result ℕ Refusal
unless None n = Ok n
unless (Some x) n = Err x

-- what adding a row answers: its number, or why it is refused
abbrev pub row_answer : List Row → Row → Result ℕ Refusal
row_answer rows r = unless (row_refusal (classes_of rows) r) (length rows)

-- why a rule may not be added over n rows: the sheet is full, or a row is not there; the first of these
abbrev pub rule_refusal : ℕ → List Rule → Rule → Option Refusal
rule_refusal n rules r =
    cond (nat_lt (length rules) max_rules)
    (cond (rule_there n r) None (Some BadOperand))
    (Some SheetFull)

-- what adding a rule over n rows answers: its number, or why it is refused
abbrev pub rule_answer : ℕ → List Rule → Rule → Result ℕ Refusal
rule_answer n rules r = unless (rule_refusal n rules r) (length rules)

-- a list after a call that adds x at its end where it accepts, and changes nothing where it refuses
abbrev pub grown : {X : Type 0} → Result ℕ Refusal → List X → X → List X
grown r xs x = cond (is_ok r) (xs ++ x ∷ []) xs
