-- The text of a rule is answered as adding the rule is. Assumes nothing.
use Rattle.std.proofs.Common.{◌≡◌, ℕ, List, Result, ap, ◌∙◌, subst}
use Rattle.sheet.specs.Refusals.{accepted, refused, told}
use Rattle.sheet.specs.declared.refusal.Refusal.{Refusal}
use Rattle.sheet.specs.declared.row.Row.{Row}
use Rattle.sheet.specs.declared.row.Rule.{Rule}
use Rattle.text.specs.declared.refusal.TextRefusal.TheVariants as refusal
use Rattle.text.specs.Grammar.{RuleFormulas, Says}
use Rattle.text.specs.Adding.{adding_answer, rows_after, rules_after}
use Rattle.text.specs.Outcome.{Read}
use Rattle.text.specs.Laws.{WrittenIsAdded}
use Rattle.text.proofs.Decided.{decided}
use Rattle.text.proofs.Unique.{unambiguous}

-- what was read and added is the rule that the text writes
read_same : (r : RuleFormulas) (bs : List ℕ) (rows rows' : List Row) (rules rules' : List Rule) (a : Result ℕ Refusal) → Says 16 r bs → Read bs rows rules rows' rules' a
    → (a ≡ adding_answer r rows rules) × (rows' ≡ rows_after r rows rules) × (rules' ≡ rules_after r rows rules)
read_same r bs rows rows' rules rules' a says read =
    subst (λ (q : RuleFormulas). (a ≡ adding_answer q rows rules) × (rows' ≡ rows_after q rows rules) × (rules' ≡ rules_after q rows rules))
    (unambiguous 16 16 read.rule r bs read.says says)
    (read.answers, read.leaves_rows, read.leaves_rules)

-- the text of a rule is answered as adding the rule is
pub written_is_added : WrittenIsAdded
written_is_added r bs rows rows' rules rules' (accepted n) says read =
    let same = read_same r bs rows rows' rules rules' _ says read in
    (ap told same.0, same.1, same.2)
written_is_added r bs rows rows' rules rules' (refused c) says (refusal.Text e, is, (no_text, same_rows, same-rules)) = absurd ((decided 16 bs e no_text).0 r says)
written_is_added r bs rows rows' rules rules' (refused c) says (refusal.Row e, is, read) =
    let same = read_same r bs rows rows' rules rules' _ says read in
    (ap refused is ∙ ap told same.0, same.1, same.2)
