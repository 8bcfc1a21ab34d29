-- A rules file and a log come to one output only.
use Rattle.std.proofs.Common.{◌≡◌, ℕ, ◌+◌, cond, eqb, List, [], ◌∷◌, length, Ok, Err, Result, sym, refl, ap, ◌∙◌, subst, inl, inr, ⊎_elim, arith}
use Rattle.lines.specs.Lines.{refused_rule}
use Rattle.sheet.specs.Refusals.{Code, Told, accepted, refused}
use Rattle.sheet.specs.declared.refusal.Refusal.{Refusal}
use Rattle.sheet.specs.declared.refusal.Refusal.TheVariants.{SheetFull, BadOperand, Unseparated}
use Rattle.sheet.specs.declared.row.Row.{Row}
use Rattle.sheet.specs.declared.row.Rule.{Rule}
use Rattle.text.specs.Adding.{adding_answer, rows_after, rules_after}
use Rattle.text.specs.Grammar.{max_depth, RuleFormulas}
use Rattle.text.specs.Outcome.{Read, Refuses}
use Rattle.text.specs.Refusals.{code}
use Rattle.text.specs.declared.refusal.Misreading.{Misreading}
use Rattle.text.specs.declared.refusal.Misreading.TheVariants.{BadText, TooDeep}
use Rattle.text.specs.declared.refusal.TextRefusal.{TextRefusal}
use Rattle.text.specs.declared.refusal.TextRefusal.TheVariants as refusal
use Rattle.text.proofs.Decided.{decided}
use Rattle.text.proofs.Unique.{unambiguous}
use Rattle.register.specs.Contents.{Content}
use Rattle.report.specs.Output.{Long, FitsIn, report_text, empty_sheet, long, line_refused, whole, OneOutput}
use Rattle.report.specs.Rules.{lines, Takes, Ruled}
use Rattle.report.specs.declared.rules.RefusedLine.{RefusedLine}

module _ (bs : List ℕ) (rows : List Row) (rules : List Rule) where
  -- Reading one rule text answers and leaves one thing.
  read-once : (rows₁ rows₂ : List Row) (rules₁ rules₂ : List Rule) (x y : Result ℕ Refusal)
      → Read bs rows rules rows₁ rules₁ x → Read bs rows rules rows₂ rules₂ y → (x ≡ y) × (rows₁ ≡ rows₂) × (rules₁ ≡ rules₂)
  read-once rows₁ rows₂ rules₁ rules₂ x y p q =
      let same : p.rule ≡ q.rule = unambiguous max_depth max_depth p.rule q.rule bs p.says q.says in (
        p.answers ∙ ap (λ (r : RuleFormulas). adding_answer r rows rules) same ∙ sym q.answers,
        p.leaves_rows ∙ ap (λ (r : RuleFormulas). rows_after r rows rules) same ∙ sym q.leaves_rows,
        p.leaves_rules ∙ ap (λ (r : RuleFormulas). rules_after r rows rules) same ∙ sym q.leaves_rules,
      )

  -- A text that is refused in one way is refused in no other.
  refuses-once : (rows₁ rows₂ : List Row) (rules₁ rules₂ : List Rule) (e f : TextRefusal)
      → Refuses bs rows rules rows₁ rules₁ e → Refuses bs rows rules rows₂ rules₂ f → (code e ≡ code f) × (rows₁ ≡ rows₂) × (rules₁ ≡ rules₂)
  refuses-once rows₁ rows₂ rules₁ rules₂ (refusal.Text e) (refusal.Text f) p q =
      (ap (λ (m : Misreading). code (refusal.Text m)) ((decided max_depth bs e p.0).1 f q.0), p.1 ∙ sym q.1, p.2 ∙ sym q.2)
  refuses-once rows₁ rows₂ rules₁ rules₂ (refusal.Text e) (refusal.Row f) p q = absurd ((decided max_depth bs e p.0).0 q.rule q.says)
  refuses-once rows₁ rows₂ rules₁ rules₂ (refusal.Row e) (refusal.Text f) p q = absurd ((decided max_depth bs f q.0).0 p.rule p.says)
  refuses-once rows₁ rows₂ rules₁ rules₂ (refusal.Row e) (refusal.Row f) p q =
      let both = read-once rows₁ rows₂ rules₁ rules₂ (Err e) (Err f) p q in
      let w = both.0 in
      let same : e ≡ f = cc in
      (ap (λ (x : Refusal). code (refusal.Row x)) same, both.1, both.2)

  -- A text that is accepted is not refused.
  not-both : (rows₁ rows₂ : List Row) (rules₁ rules₂ : List Rule) (n : ℕ) (e : TextRefusal)
      → Read bs rows rules rows₁ rules₁ (Ok n) → Refuses bs rows rules rows₂ rules₂ e → ⊥
  not-both rows₁ rows₂ rules₁ rules₂ n (refusal.Text e) p q = (decided max_depth bs e q.0).0 p.rule p.says
  not-both rows₁ rows₂ rules₁ rules₂ n (refusal.Row e) p q =
      let w = (read-once rows₁ rows₂ rules₁ rules₂ (Ok n) (Err e) p q).0 in
      let z : ◌≡◌ {A = ℕ} 0 1 = cc in omega arith

-- the first of some values
abbrev first : List ℕ → ℕ
first [] = 0
first (v ∷ vs) = v

-- the refusal that a number and values tell
abbrev refusal_of : Code → TextRefusal
refusal_of c =
    cond (eqb c.number 14) (refusal.Text (BadText (first c.values))) (cond (eqb c.number 15) (refusal.Text (TooDeep (first c.values)))
    (cond (eqb c.number 11) (refusal.Row SheetFull) (cond (eqb c.number 12) (refusal.Row BadOperand) (refusal.Row Unseparated))))

-- a refusal is the one that its number and values tell
told-by : (e : TextRefusal) → refusal_of (code e) ≡ e
told-by (refusal.Text (BadText p)) = refl
told-by (refusal.Text (TooDeep p)) = refl
told-by (refusal.Row SheetFull) = refl
told-by (refusal.Row BadOperand) = refl
told-by (refusal.Row Unseparated) = refl

-- Two refusals that are told alike are one.
told-alike : (e f : TextRefusal) → code e ≡ code f → e ≡ f
told-alike e f same = sym (told-by e) ∙ ap refusal_of same ∙ told-by f

-- a sheet by its two parts
same_content : (a b : Content) → a.rows ≡ b.rows → a.rules ≡ b.rules → a ≡ b
same_content a b e f = λ i. record { rows = e i; rules = f i }

-- One line tells and leaves one thing.
takes_once : (line : List ℕ) (c a b : Content) (t u : Told) → Takes line c t a → Takes line c u b → (t ≡ u) × (a ≡ b)
takes_once line c a b (accepted n) (accepted m) p q =
    let both = read-once line c.rows c.rules a.rows b.rows a.rules b.rules (Ok n) (Ok m) p q in
    let w = both.0 in
    let same : n ≡ m = cc in
    (ap (λ (x : ℕ). accepted x) same, same_content a b both.1 both.2)
takes_once line c a b (accepted n) (refused y) p q =
    absurd (not-both line c.rows c.rules a.rows b.rows a.rules b.rules n q.0 p q.2)
takes_once line c a b (refused x) (accepted m) p q =
    absurd (not-both line c.rows c.rules b.rows a.rows b.rules a.rules m p.0 q p.2)
takes_once line c a b (refused x) (refused y) p q =
    let both = refuses-once line c.rows c.rules a.rows b.rows a.rules b.rules p.0 q.0 p.2 q.2 in
    (ap (λ (w : Code). refused w) (p.1 ∙ both.0 ∙ sym q.1), same_content a b both.1 both.2)

-- Lines come to one thing.
ruled_once : (k : ℕ) (ls : List (List ℕ)) (c a b : Content) (r s : Result (Unit {0}) RefusedLine) → Ruled k ls c r a → Ruled k ls c s b → (r ≡ s) × (a ≡ b)
ruled_once k [] c a b r s p q = (p.0 ∙ sym q.0, p.1 ∙ sym q.1)
ruled_once k (l ∷ ls) c a b r s p q =
    ⊎_elim
    (λ x. ⊎_elim
    (λ y. let same = (takes_once l c x.1 y.1 (accepted x.0) (accepted y.0) x.2 y.2).1 in
    ruled_once (k + 1) ls y.1 a b r s (subst (λ (m : Content). Ruled (k + 1) ls m r a) same x.3) y.3)
    (λ y. let w = (takes_once l c x.1 b (accepted x.0) (refused (code y.0)) x.2 y.1).0 in
    let z : ◌≡◌ {A = ℕ} 0 1 = cc in absurd (omega arith))
    q)
    (λ x. ⊎_elim
    (λ y. let w = (takes_once l c a y.1 (refused (code x.0)) (accepted y.0) x.1 y.2).0 in
    let z : ◌≡◌ {A = ℕ} 0 1 = cc in absurd (omega arith))
    (λ y. let both = takes_once l c a b (refused (code x.0)) (refused (code y.0)) x.1 y.1 in
    let w = both.0 in
    let same : code x.0 ≡ code y.0 = cc in
    (x.2 ∙ ap (λ (why : TextRefusal). Err (record { number = k + 1; refusal = why })) (told-alike x.0 y.0 same) ∙ sym y.2, both.1))
    q)
    p

-- input that is too long does not fit
not_long : (m n : ℕ) → Long m n → FitsIn m n → ⊥
not_long m n (inl h) f = omega (arith, f.0)
not_long m n (inr h) f = omega (arith, f.1)

pub one_output : OneOutput
one_output rules log a b (long h e) (long g f) = e ∙ sym f
one_output rules log a b (long h e) (line_refused g r c d f) = absurd (not_long (length rules) (length log) h g)
one_output rules log a b (long h e) (whole g c d u f) = absurd (not_long (length rules) (length log) h g)
one_output rules log a b (line_refused h r c d e) (long g f) = absurd (not_long (length rules) (length log) g h)
one_output rules log a b (line_refused h r c d e) (line_refused g s c' d' f) =
    let w = (ruled_once 0 (lines rules) empty_sheet c c' (Err r) (Err s) d d').0 in
    let same : r ≡ s = cc in
    e ∙ ap (λ (x : RefusedLine). refused_rule x.number (code x.refusal).number) same ∙ sym f
one_output rules log a b (line_refused h r c d e) (whole g c' d' u' f) =
    let w = (ruled_once 0 (lines rules) empty_sheet c c' (Err r) (Ok tt) d d').0 in
    let z : ◌≡◌ {A = ℕ} 0 1 = cc in absurd (omega arith)
one_output rules log a b (whole h c d u e) (long g f) = absurd (not_long (length rules) (length log) g h)
one_output rules log a b (whole h c d u e) (line_refused g s c' d' f) =
    let w = (ruled_once 0 (lines rules) empty_sheet c c' (Ok tt) (Err s) d d').0 in
    let z : ◌≡◌ {A = ℕ} 0 1 = cc in absurd (omega arith)
one_output rules log a b (whole h c d u e) (whole g c' d' u' f) =
    let same = (ruled_once 0 (lines rules) empty_sheet c c' (Ok tt) (Ok tt) d d').1 in
    e.is ∙ ap (λ (x : Content). report_text x log) same ∙ sym f.is
