-- Which way formulas look, and the number that a row is refused by.
use Rattle.std.proofs.Common.{◌≡◌, ℕ, ◌<◌, Bool, true, false, cond, not, ◌&&◌, ◌||◌, ltb, List, length, get_or, take, Some, None, Option, sym, refl, ap, ◌∙◌, ap₂}
use Rattle.sheet.specs.Classes.{joined, present_or_past, present_or_future}
use Rattle.sheet.specs.Formulas.{Formula, False, class}
use Rattle.sheet.specs.Rows.{there, separated, class_at, row_class, row_refusal}
use Rattle.sheet.specs.Sheets.{formulas, formula, classes_of}
use Rattle.sheet.specs.declared.refusal.Refusal.TheVariants.{SheetFull, BadOperand, Unseparated}
use Rattle.sheet.specs.declared.row.Class.{Class}
use Rattle.sheet.specs.declared.row.Class.TheVariants.{Present, Past, Future, Mixed}
use Rattle.sheet.specs.declared.row.Row.{Row}
use Rattle.sheet.specs.declared.row.Row.TheVariants as row
use Rattle.sheet.proofs.Built.{class_get_or, class_build, length_classes}
use Rattle.evaluator.specs.Folds.{Folded, no_row, too_high, of_row}
use Rattle.evaluator.specs.Looks.{looks, both, looks_by, looked_through}
use Rattle.evaluator.specs.declared.refusals.Looks.{Looks}
use Rattle.evaluator.proofs.Operands.{formula_row, formula_absent}

-- two joined classes look both ways
looks_joined : (c d : Class) → both (looks c) (looks d) ≡ looks (joined c d)
looks_joined Present Present = refl
looks_joined Present Past = refl
looks_joined Present Future = refl
looks_joined Present Mixed = refl
looks_joined Past Present = refl
looks_joined Past Past = refl
looks_joined Past Future = refl
looks_joined Past Mixed = refl
looks_joined Future Present = refl
looks_joined Future Past = refl
looks_joined Future Future = refl
looks_joined Future Mixed = refl
looks_joined Mixed Present = refl
looks_joined Mixed Past = refl
looks_joined Mixed Future = refl
looks_joined Mixed Mixed = refl

-- a class that looks back is neither present nor future
looks_back : (c : Class) → (looks c).back ≡ not (present_or_future c)
looks_back Present = refl
looks_back Past = refl
looks_back Future = refl
looks_back Mixed = refl

-- a class that looks ahead is neither present nor past
looks_ahead : (c : Class) → (looks c).ahead ≡ not (present_or_past c)
looks_ahead Present = refl
looks_ahead Past = refl
looks_ahead Future = refl
looks_ahead Mixed = refl

-- either of two tests fails where not both pass
either_fails : (p q : Bool) → (not p || not q) ≡ not (p && q)
either_fails true q = refl
either_fails false q = refl

-- the class of an operand
pub class_operand : (rows : List Row) (a : ℕ) (s : Looks) → s ≡ looks (class (formula rows a)) → s ≡ looks (class_at (classes_of rows) a)
class_operand rows a s e = e ∙ ap looks (class_get_or (formulas rows) a)

-- which way a row that is there looks, from the classes of the rows before it
looks_row : (rows : List Row) (r : ℕ) (out : Looks) → r < length rows → out ≡ looks (row_class (classes_of (take r rows)) (get_or rows r row.True)) → out ≡ looks (class (formula rows r))
looks_row rows r out l e =
    let made : class (formula rows r) ≡ row_class (classes_of (take r rows)) (get_or rows r row.True) = ap class (formula_row rows r row.True l) ∙ class_build (formulas (take r rows)) (get_or rows r row.True) in
    e ∙ ap looks (sym made)

module _ (rows : List Row) (a : ℕ) (s : Looks) (e : s ≡ looks (class (formula rows a))) where
  -- an operand that looks back
  pub back_one : s.back ≡ not (present_or_future (class_at (classes_of rows) a))
  back_one = ap (λ (l : Looks). l.back) (class_operand rows a s e) ∙ looks_back (class_at (classes_of rows) a)

  -- an operand that looks ahead
  pub ahead_one : s.ahead ≡ not (present_or_past (class_at (classes_of rows) a))
  ahead_one = ap (λ (l : Looks). l.ahead) (class_operand rows a s e) ∙ looks_ahead (class_at (classes_of rows) a)

module _ (rows : List Row) (a b : ℕ) (s t out : Looks) (e : s ≡ looks (class (formula rows a))) (f : t ≡ looks (class (formula rows b))) (j : out ≡ both s t) where
  -- two operands look both ways
  pub looks_two : out ≡ looks (joined (class_at (classes_of rows) a) (class_at (classes_of rows) b))
  looks_two = j ∙ ap₂ both (class_operand rows a s e) (class_operand rows b t f) ∙ looks_joined (class_at (classes_of rows) a) (class_at (classes_of rows) b)

  -- one of two operands looks back
  pub back_two : out.back ≡ not (present_or_future (class_at (classes_of rows) a) && present_or_future (class_at (classes_of rows) b))
  back_two = ap (λ (l : Looks). l.back) j ∙ rw (back_one rows a s e, back_one rows b t f) (either_fails (present_or_future (class_at (classes_of rows) a)) (present_or_future (class_at (classes_of rows) b)))

  -- one of two operands looks ahead
  pub ahead_two : out.ahead ≡ not (present_or_past (class_at (classes_of rows) a) && present_or_past (class_at (classes_of rows) b))
  ahead_two = ap (λ (l : Looks). l.ahead) j ∙ rw (ahead_one rows a s e, ahead_one rows b t f) (either_fails (present_or_past (class_at (classes_of rows) a)) (present_or_past (class_at (classes_of rows) b)))

-- the formula of an operand, false where there is none
abbrev pub operand_of : List Row → Option ℕ → Formula
operand_of rows None = False
operand_of rows (Some a) = formula rows a

-- which way a row looks, from which way the operands do that say it
looks_step : (before : List Row) (x : Row) (a b : Looks) → a ≡ looks (class (operand_of before (looked_through x).0)) → b ≡ looks (class (operand_of before (looked_through x).1)) → looks_by x a b ≡ looks (row_class (classes_of before) x)
looks_step before row.True a b e f = refl
looks_step before row.False a b e f = refl
looks_step before (row.Symbol s) a b e f = refl
looks_step before (row.Not x) a b e f = class_operand before x a e
looks_step before (row.And x y) a b e f = looks_two before x y a b (both a b) e f refl
looks_step before (row.Or x y) a b e f = looks_two before x y a b (both a b) e f refl
looks_step before (row.Next x) a b e f = refl
looks_step before (row.Yest x) a b e f = refl
looks_step before (row.Until x y) a b e f = refl
looks_step before (row.Since x y) a b e f = refl
looks_step before row.Start a b e f = refl
looks_step before row.End a b e f = refl

-- a fold that goes by the rows tells which way a formula looks
module _ (Parts : Row → Option ℕ × Option ℕ → Type 0) (Gives : Row → Looks → Looks → Looks → Type 0) (absent : Looks) (e : absent ≡ looks Present) (parts : (x : Row) (p : Option ℕ × Option ℕ) → Parts x p → p ≡ looked_through x) (gives : (x : Row) (a b out : Looks) → Gives x a b out → out ≡ looks_by x a b) where
  pub looks_folded : {rows : List Row} {o : Option ℕ} {s : Looks} → Folded Parts Gives absent rows o s → s ≡ looks (class (operand_of rows o))
  looks_folded no_row = e
  looks_folded (too_high {rows} {r} l) = e ∙ ap (λ f. looks (class f)) (sym (formula_absent rows r l))
  looks_folded (of_row {rows} {r} {p} {a} {b} {x} l part first second given) =
      let y = get_or rows r row.True in
      let is = parts y p part in
      let one : a ≡ looks (class (operand_of (take r rows) (looked_through y).0)) = looks_folded first ∙ ap (λ (q : Option ℕ × Option ℕ). looks (class (operand_of (take r rows) q.0))) is in
      let two : b ≡ looks (class (operand_of (take r rows) (looked_through y).1)) = looks_folded second ∙ ap (λ (q : Option ℕ × Option ℕ). looks (class (operand_of (take r rows) q.1))) is in
      looks_row rows r x l (gives y a b x given ∙ looks_step (take r rows) y a b one two)

-- why a row is refused, from what the tests answered
pub refused_by : (rows : List Row) (x : Row) (p q s : Bool) → ltb (length rows) 32 ≡ p → there (length rows) x ≡ q → separated (classes_of rows) x ≡ s → cond p (cond q (cond s None (Some Unseparated)) (Some BadOperand)) (Some SheetFull) ≡ row_refusal (classes_of rows) x
refused_by rows x p q s ep eq es = rw (← ep, ← eq, ← es, ← length_classes rows) refl

-- a test that fails where its opposite passes, and the other way
pub opposite : (b d : Bool) → d ≡ not b → b ≡ not d
opposite true d e = sym (ap not e)
opposite false d e = sym (ap not e)
