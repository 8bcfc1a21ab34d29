-- The laws of rule texts and of the rows that they add. Assumes nothing.
use Rattle.std.specs.Prelude.{◌≡◌, ℕ, ◌<◌, List, ◌++◌, length}
use Rattle.sheet.specs.Sheets.{formula}
use Rattle.sheet.specs.declared.row.Row.{Row}
use Rattle.text.specs.declared.refusal.Misreading.{Misreading}
use Rattle.sheet.specs.Refusals.{Told, told}
use Rattle.sheet.specs.declared.row.Rule.{Rule}
use Rattle.text.specs.Grammar.{max_depth, RuleFormulas, Says, IsBadText, IsTooDeep, Refused}
use Rattle.text.specs.Adding.{rule_rows, rule_over, adding_answer, rows_after, rules_after}
use Rattle.text.specs.Outcome.{Tells}

-- a text writes at most one rule, however deep
abbrev pub Unambiguous : Type 0
Unambiguous = (d e : ℕ) (r t : RuleFormulas) (bs : List ℕ) → Says d r bs → Says e t bs → r ≡ t

-- a rule text at most d deep is not refused, and any other text in one way and at one place at most
abbrev pub Decided : Type 0
Decided = (d : ℕ) (bs : List ℕ) (e : Misreading) → Refused d bs e
    → ((r : RuleFormulas) → Says d r bs → ⊥) × ((f : Misreading) → Refused d bs f → e ≡ f)

-- where a text has a bracket that is too deep and is a bad text as well, the bracket comes first, and it is what is told
abbrev pub EarlierDecides : Type 0
EarlierDecides = (d : ℕ) (bs : List ℕ) (deep bad : ℕ) → IsTooDeep d bs deep → IsBadText bs bad → deep < bad

-- the rows that a rule adds mean its two formulas, and the rows before them mean what they meant
pub record Means (rows : List Row) (r : RuleFormulas) : Type 0 where
  pub activator : formula (rows ++ rule_rows r (length rows)) (rule_over r (length rows)).activator ≡ r.activator
  pub target : formula (rows ++ rule_rows r (length rows)) (rule_over r (length rows)).target ≡ r.target
  pub before : (k : ℕ) → k < length rows → formula (rows ++ rule_rows r (length rows)) k ≡ formula rows k

-- the text of a rule, not too deep, is answered as adding that rule is, and leaves what that leaves
abbrev pub WrittenIsAdded : Type 0
WrittenIsAdded = (r : RuleFormulas) (bs : List ℕ) (rows rows' : List Row) (rules rules' : List Rule) (t : Told) → Says max_depth r bs → Tells bs rows rules rows' rules' t
    → (t ≡ told (adding_answer r rows rules)) × (rows' ≡ rows_after r rows rules) × (rules' ≡ rules_after r rows rules)

-- the laws together
pub record TextLaws : Type 0 where
  pub unambiguous : Unambiguous
  pub decided : Decided
  pub earlier_decides : EarlierDecides
  pub written_is_added : WrittenIsAdded
  pub means : (rows : List Row) (r : RuleFormulas) → Means rows r
