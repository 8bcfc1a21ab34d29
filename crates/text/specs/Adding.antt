-- The rows of a rule that is given as two formulas, and what adding them and the rule to a sheet answers and leaves. Assumes nothing.
use Rattle.std.specs.Prelude.{ℕ, ◌+◌, ◌-◌, cond, List, [], ◌∷◌, ◌++◌, length, is_ok, Some, None, Option, Result}
use Rattle.sheet.specs.Formulas.{Formula, True, False, Symbol, Not, And, Or, Next, Yest, Until, Since, Start, End}
use Rattle.sheet.specs.Rows.{row_refusal}
use Rattle.sheet.specs.Sheets.{classes_of, rule_refusal, unless}
use Rattle.sheet.specs.declared.refusal.Refusal.{Refusal}
use Rattle.sheet.specs.declared.row.Row.{Row}
use Rattle.sheet.specs.declared.row.Row.TheVariants as row
use Rattle.sheet.specs.declared.row.Rule.{Rule}
use Rattle.text.specs.Rules.{RuleFormulas}

-- how many rows a formula has: one for each part
abbrev pub size : Formula → ℕ
size True = 1
size False = 1
size Start = 1
size End = 1
size (Symbol n) = 1
size (Not a) = size a + 1
size (Next a) = size a + 1
size (Yest a) = size a + 1
size (And a b) = size a + size b + 1
size (Or a b) = size a + size b + 1
size (Until a b) = size a + size b + 1
size (Since a b) = size a + size b + 1

-- the number of a formula's own row, its last, where n rows stand before its first
abbrev pub own : Formula → ℕ → ℕ
own a n = n + size a - 1

-- the rows of a group of one operand a, after n rows: the operand's, and then its own
abbrev pub over_one : (ℕ → Row) → Formula → (ℕ → List Row) → ℕ → List Row
over_one make a first n = first n ++ make (own a n) ∷ []

-- the rows of a group of two operands a and b, after n rows: the left operand's, the right operand's, and then its own
abbrev pub over_two : (ℕ → ℕ → Row) → Formula → Formula → (ℕ → List Row) → (ℕ → List Row) → ℕ → List Row
over_two make a b first second n = (first n ++ second (n + size a)) ++ make (own a n) (own b (n + size a)) ∷ []

-- the rows of a formula, after n rows
abbrev pub rows_for : Formula → ℕ → List Row
rows_for True n = row.True ∷ []
rows_for False n = row.False ∷ []
rows_for Start n = row.Start ∷ []
rows_for End n = row.End ∷ []
rows_for (Symbol s) n = row.Symbol s ∷ []
rows_for (Not a) n = over_one row.Not a (rows_for a) n
rows_for (Next a) n = over_one row.Next a (rows_for a) n
rows_for (Yest a) n = over_one row.Yest a (rows_for a) n
rows_for (And a b) n = over_two row.And a b (rows_for a) (rows_for b) n
rows_for (Or a b) n = over_two row.Or a b (rows_for a) (rows_for b) n
rows_for (Until a b) n = over_two row.Until a b (rows_for a) (rows_for b) n
rows_for (Since a b) n = over_two row.Since a b (rows_for a) (rows_for b) n

-- the rows of a rule, after n rows: the activator's, and then the target's
abbrev pub rule_rows : RuleFormulas → ℕ → List Row
rule_rows r n = rows_for r.activator n ++ rows_for r.target (n + size r.activator)

-- the rule over those rows
abbrev pub rule_over : RuleFormulas → ℕ → Rule
rule_over r n = record { activator = own r.activator n; target = own r.target (n + size r.activator) }

-- the first refusal of two, if there is one
abbrev pub first_of : Option Refusal → Option Refusal → Option Refusal
first_of (Some e) later = Some e
first_of None later = later

-- the first refusal among rows that are added to a sheet one after another
abbrev pub first_refusal : List Row → List Row → Option Refusal
first_refusal rows [] = None
first_refusal rows (r ∷ more) = first_of (row_refusal (classes_of rows) r) (first_refusal (rows ++ r ∷ []) more)

-- the first refusal among the rows of a rule, and then the rule, if there is one
abbrev pub adding_refusal : RuleFormulas → List Row → List Rule → Option Refusal
adding_refusal r rows rules =
    first_of (first_refusal rows (rule_rows r (length rows)))
    (rule_refusal (length (rows ++ rule_rows r (length rows))) rules (rule_over r (length rows)))

-- what adding a rule answers: its number, or the first refusal
abbrev pub adding_answer : RuleFormulas → List Row → List Rule → Result ℕ Refusal
adding_answer r rows rules = unless (adding_refusal r rows rules) (length rules)

-- the rows of the sheet after that
abbrev pub rows_after : RuleFormulas → List Row → List Rule → List Row
rows_after r rows rules = cond (is_ok (adding_answer r rows rules)) (rows ++ rule_rows r (length rows)) rows

-- the rules of the sheet after that
abbrev pub rules_after : RuleFormulas → List Row → List Rule → List Rule
rules_after r rows rules = cond (is_ok (adding_answer r rows rules)) (rules ++ rule_over r (length rows) ∷ []) rules
