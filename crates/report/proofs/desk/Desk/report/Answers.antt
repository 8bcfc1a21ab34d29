-- What `report` needs and the search leaves open.
use Rattle.std.proofs.Common.{◌≡◌, ℕ, List, [], ◌∷◌, ◌++◌, length, Ok, Err, vec_items, sym, ap, ◌∙◌, subst, arith}
use Rattle.lines.specs.Lines.{written, refused_rule}
use Rattle.register.specs.Contents.{Content, content}
use Rattle.report.specs.Output.{empty_sheet, Whole, line_refused, whole}
use Rattle.report.specs.Rules.{lines, Ruled}
use Rattle.report.proofs.Once.{one_output}
use Rattle.report.proofs.Rulings.{written as written-by}
use Rattle.report.proofs.desk.Desk.report.Goals as goal

-- a list of no length
none : {X : Type 0} (xs : List X) → length xs ≡ 0 → xs ≡ []
none [] e = λ _. []
none (x ∷ xs) e = absurd (omega arith)

-- what is added to nothing
added : (out more line : List ℕ) (text : List ℕ) → length out ≡ 0 → more ≡ out ++ line → line ≡ text → more ≡ text
added out more line text e g t = g ∙ ap (λ (x : List ℕ). x ++ line) (none out e) ∙ t

-- what is on an empty sheet
empty : (c : Content) → length c.rows ≡ 0 → length c.rules ≡ 0 → c ≡ empty_sheet
empty c a b = λ i. record { rows = none c.rows a i; rules = none c.rules b i }

pub returns-then-is_too_long-clause-once : goal.returns-then-is_too_long-clause-once
returns-then-is_too_long-clause-once c = one_output

pub returns-in-Err-clause-once : goal.returns-in-Err-clause-once
returns-in-Err-clause-once c = one_output

pub returns-in-Err-clause-reported : goal.returns-in-Err-clause-reported
returns-in-Err-clause-reported c =
    let sheet = c.args.self.sheet in
    let start : content sheet ≡ empty_sheet
    = empty (content sheet) (omega (arith, sheet.rows.ok.0, c.args.self.no_rows)) (omega (arith, sheet.rules.ok.0, c.args.self.no_rules)) in
    line_refused (c.is_too_long.ensures.fits c.if-is_too_long.false) c.in-Err.refused (content c.read_rules.new.sheet)
    (subst (λ (x : Content). Ruled 0 (lines c.args.rules.now) x (Err c.in-Err.refused) (content c.read_rules.new.sheet)) start c.in-Err.ensures)
    (added (vec_items c.args.self.out.bytes) (vec_items c.into_bytes-in-Err.result) (written c.refused_line.result) _
    (omega (arith, c.args.self.out.bytes.ok.0, c.args.self.blank)) (c.into_bytes-in-Err.ensures ∙ c.add_line-in-Err.ensures.items)
    (c.refused_line.ensures ∙ ap (refused_rule c.in-Err.refused.number) c.number-why.ensures))

pub returns-clause-once : goal.returns-clause-once
returns-clause-once c = one_output

pub returns-clause-reported : goal.returns-clause-reported
returns-clause-reported c =
    let sheet = c.args.self.sheet in
    let start : content sheet ≡ empty_sheet
    = empty (content sheet) (omega (arith, sheet.rows.ok.0, c.args.self.no_rows)) (omega (arith, sheet.rules.ok.0, c.args.self.no_rules)) in
    let ruled = subst (λ (x : Content). Ruled 0 (lines c.args.rules.now) x (Ok tt) (content c.read_rules.new.sheet)) start c.in_default.ensures in
    whole (c.is_too_long.ensures.fits c.if-is_too_long.false) (content c.read_rules.new.sheet) ruled
    (written-by (lines c.args.rules.now) 0 (content c.read_rules.new.sheet) ruled)
    (subst (λ (x : List ℕ). Whole (content c.read_rules.new.sheet) c.args.log.now x) (sym c.into_bytes-2.ensures) c.report_log.ensures)
