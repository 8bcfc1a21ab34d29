-- What adding a rule text to a sheet tells and leaves. Assumes nothing.
use Rattle.std.specs.Prelude.{◌≡◌, ℕ, List, Ok, Err, Result}
use Rattle.sheet.specs.Refusals.{Told, accepted, refused}
use Rattle.sheet.specs.declared.refusal.Refusal.{Refusal}
use Rattle.sheet.specs.declared.row.Row.{Row}
use Rattle.sheet.specs.declared.row.Rule.{Rule}
use Rattle.text.specs.declared.refusal.TextRefusal.{TextRefusal}
use Rattle.text.specs.declared.refusal.TextRefusal.TheVariants as refusal
use Rattle.text.specs.Refusals.{code}
use Rattle.text.specs.Grammar.{max_depth, RuleFormulas, Says, Refused}
use Rattle.text.specs.Adding.{adding_answer, rows_after, rules_after}

-- an answer as it is told: a rule's number, or a refusal's number and values
abbrev pub told : Result ℕ TextRefusal → Told
told (Ok n) = accepted n
told (Err e) = refused (code e)

-- the bytes are the text of a rule, not too deep, and the answer and the sheet afterwards are those of adding that rule
pub record Read (bs : List ℕ) (rows : List Row) (rules : List Rule) (rows' : List Row) (rules' : List Rule) (answer : Result ℕ Refusal) : Type 0 where
  pub rule : RuleFormulas
  pub says : Says max_depth rule bs
  pub answers : answer ≡ adding_answer rule rows rules
  pub leaves_rows : rows' ≡ rows_after rule rows rules
  pub leaves_rules : rules' ≡ rules_after rule rows rules

-- why a text was refused: it is no rule text, or one that is too deep, and the sheet is as it was; or its rule could not be added
abbrev pub Refuses : List ℕ → List Row → List Rule → List Row → List Rule → TextRefusal → Type 0
Refuses bs rows rules rows' rules' (refusal.Text e) = Refused max_depth bs e × (rows' ≡ rows) × (rules' ≡ rules)
Refuses bs rows rules rows' rules' (refusal.Row e) = Read bs rows rules rows' rules' (Err e)

-- what is told of a text, and the sheet before and after
abbrev pub Tells : List ℕ → List Row → List Rule → List Row → List Rule → Told → Type 0
Tells bs rows rules rows' rules' (accepted n) = Read bs rows rules rows' rules' (Ok n)
Tells bs rows rules rows' rules' (refused c) = (e : TextRefusal) × (c ≡ code e) × Refuses bs rows rules rows' rules' e
