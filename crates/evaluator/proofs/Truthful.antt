-- A set that is gathered from the operands' sets is where the row's formula is true.
use Rattle.std.proofs.Common.{◌≡◌, ℕ, ◌-◌, ◌<◌, ◌≤◌, true, List, length, get_or, take, None, Option, sym, refl, ap, ◌∙◌, subst, arith, Ok}
use Rattle.std.proofs.lemmas.List.{length-map, get_or-map}
use Rattle.label.specs.Truth.{Holds}
use Rattle.label.proofs.Truths.{reading_in}
use Rattle.sheet.specs.Formulas.{Formula}
use Rattle.sheet.specs.Rows.{build}
use Rattle.sheet.specs.Sheets.{formulas}
use Rattle.sheet.specs.declared.row.Row.{Row}
use Rattle.sheet.specs.declared.row.Row.TheVariants as row
use Rattle.trace.specs.Readings.{Reading, reading_at, shows, outside}
use Rattle.trace.specs.Symbols.{bit_set, set_where}
use Rattle.evaluator.specs.Quantifiers.{In, Exactly}
use Rattle.evaluator.specs.Rows.{HoldsAt, first_operand, second_operand}
use Rattle.evaluator.specs.Folds.{Folded, no_row, too_high, of_row}
use Rattle.evaluator.specs.Truths.{readings, WhereTrue}
use Rattle.evaluator.specs.declared.instants.Instants.{Instants}
use Rattle.evaluator.proofs.Operands.{Operand, carried, formula_row, formula_absent}
use Rattle.evaluator.proofs.Sets.{exactly_same, exactly_none}

-- what an instant shows
abbrev shown : ℕ → Reading
shown bits = Ok (record { symbols = set_where (bit_set bits) })

-- the reading at an instant of the trace
pub reading_of : (trace : List ℕ) (i : ℕ) → 1 ≤ i → i ≤ length trace → reading_at (readings trace) i ≡ shown (get_or trace (i - 1) 0)
reading_of trace i low high = reading_in (readings trace) i low ∙ get_or-map shown trace (i - 1) 0 (outside i) (omega arith)

-- a trace has as many readings as instants
pub as_long : (trace : List ℕ) → length trace ≡ length (readings trace)
as_long trace = sym (length-map trace shown)

module _ (trace : List ℕ) (fs : List Formula) where
  -- truth of a formula on the trace
  abbrev True-at : Formula → ℕ → Type 0
  True-at = Holds (readings trace)

  -- a row holds by the truth of its operands where its formula is true
  formula-true : (x : Row) (i : ℕ) → 1 ≤ i → i ≤ length trace → HoldsAt x (get_or trace (i - 1) 0) (Operand True-at fs (first_operand x)) (Operand True-at fs (second_operand x)) (length (readings trace)) i ≡ True-at (build fs x) i
  formula-true row.True i low high = refl
  formula-true row.False i low high = refl
  formula-true (row.Symbol s) i low high = ap (λ (rd : Reading). shows rd s ≡ true) (sym (reading_of trace i low high))
  formula-true (row.Not a) i low high = refl
  formula-true (row.And a b) i low high = refl
  formula-true (row.Or a b) i low high = refl
  formula-true (row.Next a) i low high = refl
  formula-true (row.Yest a) i low high = refl
  formula-true (row.Until a b) i low high = refl
  formula-true (row.Since a b) i low high = refl
  formula-true row.Start i low high = refl
  formula-true row.End i low high = refl

  -- so the gathered set is where the formula is true
  pub gathers_truth : (x : Row) (a b out : Instants)
      → Exactly a (length trace) (Operand True-at fs (first_operand x)) → Exactly b (length trace) (Operand True-at fs (second_operand x))
      → Exactly out (length trace) (λ i. HoldsAt x (get_or trace (i - 1) 0) (In a) (In b) (length trace) i)
      → Exactly out (length trace) (True-at (build fs x))
  gathers_truth x a b out ea eb =
      let n = length trace in
      let A = Operand True-at fs (first_operand x) in
      let B = Operand True-at fs (second_operand x) in
      let same : (i : ℕ) → 1 ≤ i → i ≤ n → HoldsAt x (get_or trace (i - 1) 0) A B n i ≡ True-at (build fs x) i
      = λ i low high. ap (λ m. HoldsAt x (get_or trace (i - 1) 0) A B m i) (as_long trace) ∙ formula-true x i low high in
      exactly_same out n (λ i. HoldsAt x (get_or trace (i - 1) 0) (In a) (In b) n i) (True-at (build fs x))
      (λ i low high h. subst (λ X. X) (same i low high)
      (carried n (In a) A (In b) B (λ j l m y. (ea.inside j y).2) (λ j l m y. (eb.inside j y).2) (λ j l m y. ea.all j l m y) x (get_or trace (i - 1) 0) i low high h))
      (λ i low high h.
      carried n A (In a) B (In b) (λ j l m y. ea.all j l m y) (λ j l m y. eb.all j l m y) (λ j l m y. (ea.inside j y).2) x (get_or trace (i - 1) 0) i low high (subst (λ X. X) (sym (same i low high)) h))

-- a row that is there, whose operands are looked for among the rows before it
pub row_true : (rows before : List Row) (trace : List ℕ) (r : ℕ) (d : Row) (a b out : Instants) → r < length rows → before ≡ take r rows
    → Exactly a (length trace) (Operand (Holds (readings trace)) (formulas before) (first_operand (get_or rows r d)))
    → Exactly b (length trace) (Operand (Holds (readings trace)) (formulas before) (second_operand (get_or rows r d)))
    → Exactly out (length trace) (λ i. HoldsAt (get_or rows r d) (get_or trace (i - 1) 0) (In a) (In b) (length trace) i)
    → WhereTrue rows trace r out
row_true rows before trace r d a b out l cut ea eb e =
    let made = ap (λ (xs : List Row). build (formulas xs) (get_or rows r d)) cut ∙ sym (formula_row rows r d l) in
    subst (λ f. Exactly out (length trace) (Holds (readings trace) f)) made (gathers_truth trace (formulas before) (get_or rows r d) a b out ea eb e)

-- a row that is not there
pub row_false : (rows : List Row) (trace : List ℕ) (r : ℕ) (out : Instants) → length rows ≤ r → ((i : ℕ) → In out i → ⊥) → WhereTrue rows trace r out
row_false rows trace r out l none =
    subst (λ f. Exactly out (length trace) (Holds (readings trace) f)) (sym (formula_absent rows r l)) (exactly_none out (length trace) (λ i. ⊥) none (λ i x. x))

-- a fold that goes by the rows gives where a formula is true
module _ (trace : List ℕ) (Parts : Row → Option ℕ × Option ℕ → Type 0) (Gives : Row → Instants → Instants → Instants → Type 0) (absent : Instants) (none : (i : ℕ) → In absent i → ⊥) (parts : (x : Row) (p : Option ℕ × Option ℕ) → Parts x p → p ≡ (first_operand x, second_operand x)) (gives : (x : Row) (a b out : Instants) → Gives x a b out → Exactly out (length trace) (λ i. HoldsAt x (get_or trace (i - 1) 0) (In a) (In b) (length trace) i)) where
  pub truth_folded : {rows : List Row} {o : Option ℕ} {s : Instants} → Folded Parts Gives absent rows o s → Exactly s (length trace) (Operand (Holds (readings trace)) (formulas rows) o)
  truth_folded (no_row {rows}) = exactly_none absent (length trace) (Operand (Holds (readings trace)) (formulas rows) None) none (λ i x. x)
  truth_folded (too_high {rows} {r} l) = row_false rows trace r absent l none
  truth_folded (of_row {rows} {r} {p} {a} {b} {x} l part first second given) =
      let y = get_or rows r row.True in
      let one = subst (λ (q : Option ℕ × Option ℕ). Exactly a (length trace) (Operand (Holds (readings trace)) (formulas (take r rows)) q.0)) (parts y p part) (truth_folded first) in
      let two = subst (λ (q : Option ℕ × Option ℕ). Exactly b (length trace) (Operand (Holds (readings trace)) (formulas (take r rows)) q.1)) (parts y p part) (truth_folded second) in
      row_true rows (take r rows) trace r row.True a b x l refl one two (gives y a b x given)
