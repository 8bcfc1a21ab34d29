-- What it is for a sheet to be well formed, for a row or a rule to be accepted or refused, and for one sheet to mirror another.
use Rattle.std.specs.Prelude.{◌≡◌, ℕ, ◌<◌, ◌≤◌, ◌⊎◌, List, length, Ok, Err, Result, slice_index_or}
use Rattle.std.specs.List.{AllByRecursion}
use Rattle.sheet.specs.Formulas.{Formula, class, mirror}
use Rattle.sheet.specs.Limits.{max_rows, max_rules, symbols}
use Rattle.sheet.specs.Sheets.{formula}
use Rattle.sheet.specs.declared.refusal.Refusal.{Refusal}
use Rattle.sheet.specs.declared.refusal.Refusal.TheVariants.{SheetFull, BadOperand, Unseparated}
use Rattle.sheet.specs.declared.row.Class.TheVariants.{Present, Past, Future}
use Rattle.sheet.specs.declared.row.Row.{Row}
use Rattle.sheet.specs.declared.row.Row.TheVariants as row
use Rattle.sheet.specs.declared.row.Rule.{Rule}

-- a present or past formula
abbrev pub PresentOrPast : Formula → Type 0
PresentOrPast f = (class f ≡ Present) ⊎ (class f ≡ Past)

-- a present or future formula
abbrev pub PresentOrFuture : Formula → Type 0
PresentOrFuture f = (class f ≡ Present) ⊎ (class f ≡ Future)

-- a row's operands are among the first n rows, and its symbol is one
abbrev pub OperandsThere : ℕ → Row → Type 0
OperandsThere n row.True = Unit {0}
OperandsThere n row.False = Unit {0}
OperandsThere n (row.Symbol s) = s < symbols
OperandsThere n (row.Not a) = a < n
OperandsThere n (row.And a b) = (a < n) × (b < n)
OperandsThere n (row.Or a b) = (a < n) × (b < n)
OperandsThere n (row.Next a) = a < n
OperandsThere n (row.Yest a) = a < n
OperandsThere n (row.Until a b) = (a < n) × (b < n)
OperandsThere n (row.Since a b) = (a < n) × (b < n)
OperandsThere n row.Start = Unit {0}
OperandsThere n row.End = Unit {0}

-- a row's operands are of classes that its kind takes, where f gives the formulas of rows: yest and since have only present or
-- past ones, next and until only present or future ones
abbrev pub OperandsTaken : (ℕ → Formula) → Row → Type 0
OperandsTaken f row.True = Unit {0}
OperandsTaken f row.False = Unit {0}
OperandsTaken f (row.Symbol s) = Unit {0}
OperandsTaken f (row.Not a) = Unit {0}
OperandsTaken f (row.And a b) = Unit {0}
OperandsTaken f (row.Or a b) = Unit {0}
OperandsTaken f (row.Next a) = PresentOrFuture (f a)
OperandsTaken f (row.Yest a) = PresentOrPast (f a)
OperandsTaken f (row.Until a b) = PresentOrFuture (f a) × PresentOrFuture (f b)
OperandsTaken f (row.Since a b) = PresentOrPast (f a) × PresentOrPast (f b)
OperandsTaken f row.Start = Unit {0}
OperandsTaken f row.End = Unit {0}

-- a rule's rows are among the first n
abbrev pub RuleFits : ℕ → Rule → Type 0
RuleFits n r = (r.activator < n) × (r.target < n)

-- a sheet is well formed: it is within the limits, every row's operands are earlier rows of classes that its kind takes, and
-- every rule's rows are there
pub record WellFormed (rows : List Row) (rules : List Rule) : Type 0 where
  pub few_rows : length rows ≤ max_rows
  pub few_rules : length rules ≤ max_rules
  pub operands_there : (r : ℕ) → r < length rows → OperandsThere r (slice_index_or rows r row.False)
  pub operands_taken : (r : ℕ) → r < length rows → OperandsTaken (formula rows) (slice_index_or rows r row.False)
  pub rules_there : AllByRecursion (RuleFits (length rows)) rules

-- What the answer to adding the row x after these rows means. Accepted: it is the number of rows, there was room, and the operands are
-- there and taken. Sheet full: there was no room. Bad operand: there was room, and an operand or the symbol is not there.
-- Unseparated: there was room, the operands are there, and one is of a class that is not taken.
abbrev pub RowAnswered : List Row → Row → Result ℕ Refusal → Type 0
RowAnswered rows x (Ok n) = (n ≡ length rows) × (length rows < max_rows) × OperandsThere (length rows) x × OperandsTaken (formula rows) x
RowAnswered rows x (Err SheetFull) = max_rows ≤ length rows
RowAnswered rows x (Err BadOperand) = (length rows < max_rows) × (OperandsThere (length rows) x → ⊥)
RowAnswered rows x (Err Unseparated) = (length rows < max_rows) × OperandsThere (length rows) x × (OperandsTaken (formula rows) x → ⊥)

-- What the answer to adding the rule x after these rules, over n rows, means. Accepted: it is the number of rules, there was room, and its
-- rows are there. Sheet full: there was no room. Bad operand: there was room, and one of its rows is not there. A rule is
-- never unseparated.
abbrev pub RuleAnswered : ℕ → List Rule → Rule → Result ℕ Refusal → Type 0
RuleAnswered n rules x (Ok k) = (k ≡ length rules) × (length rules < max_rules) × RuleFits n x
RuleAnswered n rules x (Err SheetFull) = max_rules ≤ length rules
RuleAnswered n rules x (Err BadOperand) = (length rules < max_rules) × (RuleFits n x → ⊥)
RuleAnswered n rules x (Err Unseparated) = ⊥

-- the rows of one sheet mirror those of another: as many, and the formula of each is the mirror of the other's
pub record Mirrors (rows mirrored : List Row) : Type 0 where
  pub count : length mirrored ≡ length rows
  pub each : (r : ℕ) → r < length rows → formula mirrored r ≡ mirror (formula rows r)
