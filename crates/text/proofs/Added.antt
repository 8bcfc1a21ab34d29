-- What a draft of a rule's rows says of adding the rule. Assumes nothing.
use Rattle.std.proofs.Common.{◌≡◌, ℕ, ◌+◌, ◌<◌, ◌≤◌, true, cond, ltb, List, [], ◌∷◌, ◌++◌, length, is_ok, Some, None, Ok, Err, Result, sym, ap, ◌∙◌, subst, arith, length-append}
use Rattle.std.proofs.lemmas.Bool.{cond-true, cond-false, lt-ltb, le-ltb, and_from}
use Rattle.sheet.specs.Sheets.{unless, rule_refusal, rule_answer}
use Rattle.sheet.specs.Rows.{rule_there}
use Rattle.sheet.specs.declared.refusal.Refusal.{Refusal}
use Rattle.sheet.specs.declared.refusal.Refusal.TheVariants.{SheetFull}
use Rattle.sheet.specs.declared.row.Row.{Row}
use Rattle.sheet.specs.declared.row.Rule.{Rule}
use Rattle.text.specs.Grammar.{RuleFormulas}
use Rattle.text.specs.Adding.{size, own, rows_for, rule_rows, rule_over, first_of, first_refusal, adding_answer}
use Rattle.text.specs.Drafts.{Drafted, fresh}
use Rattle.text.specs.Machine.{Plants}
use Rattle.text.specs.Outcome.{Read}
use Rattle.text.specs.Trees.{meant}
use Rattle.text.proofs.Planted.{Put, put_refusal, put_all, Pair, pair, planted}
use Rattle.text.proofs.Sizes.{some_rows, length_rows}

-- a draft onto which a rule text was read
module _ (bs : List ℕ) (rows : List Row) (rules : List Rule) (d : Drafted) (r : Rule) (read : Plants 16 bs (fresh rows) d r) where
  -- the rule that the text writes
  abbrev said : RuleFormulas
  said = record { activator = meant read.activator; target = meant read.target }

  -- its rows
  abbrev added : List Row
  added = rule_rows said (length rows)

  -- they were put onto the draft
  both : Pair read.activator read.target rows
  both = pair read.activator read.target rows (planted read.activator rows) (planted read.target (rows ++ rows_for (meant read.activator) (length rows)))

  -- the draft after them
  state : Put rows added d
  state = subst (Put rows added) (sym read.rows) both.state

  -- an answer that is a refusal leaves the sheet as it was
  pub refused_read : (e : Refusal) → adding_answer said rows rules ≡ Err e → Read bs rows rules rows rules (Err e)
  refused_read e answer = record {
    rule = said;
    says = read.says;
    answers = sym answer;
    leaves_rows = sym (ap (λ (z : Result ℕ Refusal). cond (is_ok z) (rows ++ added) rows) answer);
    leaves_rules = sym (ap (λ (z : Result ℕ Refusal). cond (is_ok z) (rules ++ rule_over said (length rows) ∷ []) rules) answer);
  }

  -- the first refused row is told
  pub row_refused : (e : Refusal) → d.refusal ≡ Some e → Read bs rows rules rows rules (Err e)
  row_refused e is =
      let first : first_refusal rows added ≡ Some e = sym (put_refusal rows added d state) ∙ is in
      refused_read e (ap (λ o. unless (first_of o (rule_refusal (length (rows ++ added)) rules (rule_over said (length rows)))) (length rules)) first)

  -- where no row was refused
  module _ (is : d.refusal ≡ None) where
    -- no row is refused
    none : first_refusal rows added ≡ None
    none = sym (put_refusal rows added d state) ∙ is

    -- the draft has the rule's rows
    pub draft_rows : d.rows ≡ rows ++ added
    draft_rows = ap (λ (z : Drafted). z.rows) (put_all rows added d state none)

    -- the rule that was read is the one over its rows
    pub rule_is : r ≡ rule_over said (length rows)
    rule_is = λ i. record { activator = (read.first ∙ both.first none) i; target = (read.second ∙ both.second none) i }

    -- the answer is that for the rule
    answer-is : adding_answer said rows rules ≡ rule_answer (length (rows ++ added)) rules (rule_over said (length rows))
    answer-is = ap (λ o. unless (first_of o (rule_refusal (length (rows ++ added)) rules (rule_over said (length rows)))) (length rules)) none

    -- a sheet that is full of rules
    pub rules_full : 8 ≤ length rules → Read bs rows rules rows rules (Err SheetFull)
    rules_full full = refused_read SheetFull (answer-is ∙ ap (λ o. unless o (length rules)) (cond-false (ltb (length rules) 8) _ _ (le-ltb (length rules) 8 full)))

    -- the rows of the rule are there
    rows-there : rule_there (length (rows ++ added)) (rule_over said (length rows)) ≡ true
    rows-there =
        let n = length rows in
        let a = meant read.activator in
        let t = meant read.target in
        let long = length-append rows added in
        let parts = length-append (rows_for a n) (rows_for t (n + size a)) in
        let left = length_rows read.activator n in
        let right = length_rows read.target (n + size a) in
        let some = some_rows read.activator in
        let more = some_rows read.target in
        and_from (ltb (own a n) (length (rows ++ added))) (ltb (own t (n + size a)) (length (rows ++ added)))
        (lt-ltb (own a n) (length (rows ++ added)) (omega arith)) (lt-ltb (own t (n + size a)) (length (rows ++ added)) (omega arith))

    -- the rule is accepted
    pub rule_accepted : length rules < 8 → rule_answer (length (rows ++ added)) rules (rule_over said (length rows)) ≡ Ok (length rules)
    rule_accepted few =
        ap (λ o. unless o (length rules))
        (cond-true (ltb (length rules) 8) _ _ (lt-ltb (length rules) 8 few)
        ∙ cond-true (rule_there (length (rows ++ added)) (rule_over said (length rows))) _ _ rows-there)

    -- what the sheet answers and holds then
    pub accepted_read : (n : ℕ) (answer : Result ℕ Refusal) (rows' : List Row) (rules' : List Rule) → length rules < 8 → n ≡ length d.rows → answer ≡ rule_answer n rules r → rows' ≡ d.rows → rules' ≡ cond (is_ok answer) (rules ++ r ∷ []) rules
        → (answer ≡ Ok (length rules)) × Read bs rows rules rows' rules' answer
    accepted_read n answer rows' rules' few long is-answer is-rows is-rules =
        let same : answer ≡ rule_answer (length (rows ++ added)) rules (rule_over said (length rows)) = is-answer ∙ (λ i. rule_answer ((long ∙ ap length draft_rows) i) rules (rule_is i)) in
        let ok : answer ≡ Ok (length rules) = same ∙ rule_accepted few in
        let tells : answer ≡ adding_answer said rows rules = same ∙ sym answer-is in
        let good : adding_answer said rows rules ≡ Ok (length rules) = sym tells ∙ ok in (
          ok,
          record {
            rule = said;
            says = read.says;
            answers = tells;
            leaves_rows = is-rows ∙ draft_rows ∙ sym (ap (λ (z : Result ℕ Refusal). cond (is_ok z) (rows ++ added) rows) good);
            leaves_rules = is-rules ∙ (λ i. cond (is_ok (tells i)) (rules ++ rule_is i ∷ []) rules);
          },
        )
