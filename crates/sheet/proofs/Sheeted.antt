-- What a sheet's invariant tells of its rows and rules.
use Rattle.std.proofs.Common.{◌≡◌, ℕ, ◌<◌, ◌≤◌, Bool, true, false, cond, ◌&&◌, ltb, ◌⊎◌, List, [], ◌∷◌, length, get_or, Some, None, vec_items, vec_len, Result, sym, refl, ap, ◌∙◌, subst, inl, inr, ⊎_elim, arith}
use Rattle.std.proofs.lemmas.List.{get_or_default}
use Rattle.std.proofs.lemmas.Bool.{and_parts, and_from, ltb-true, ltb-false, lt-ltb, both_ways}
use Rattle.std.specs.List.{AllByRecursion}
use Rattle.sheet.specs.Classes.{present_or_past, present_or_future}
use Rattle.sheet.specs.Formulas.{class}
use Rattle.sheet.specs.Limits.{max_rows, symbols}
use Rattle.sheet.specs.Rows.{there, separated, class_at, row_refusal, rule_there}
use Rattle.sheet.specs.Sheets.{classes_of, formula, formulas, ruled, unless, row_answer}
use Rattle.sheet.specs.declared.refusal.Refusal.{Refusal}
use Rattle.sheet.specs.declared.refusal.Refusal.TheVariants.{SheetFull, BadOperand, Unseparated}
use Rattle.sheet.specs.Theorems.{OperandsThere, OperandsTaken, RuleFits, WellFormed, RowAnswered, PresentOrPast, PresentOrFuture}
use Rattle.sheet.specs.declared.row.Class.{Class}
use Rattle.sheet.specs.declared.row.Class.TheVariants.{Present, Past, Future, Mixed}
use Rattle.sheet.specs.declared.row.Row.{Row}
use Rattle.sheet.specs.declared.row.Row.TheVariants as row
use Rattle.sheet.specs.declared.row.Rule.{Rule}
use Rattle.sheet.specs.declared.sheet.Sheet.{Sheet}
use Rattle.sheet.proofs.Built.{length_classes, class_get_or, Accepted, accepted}
use Rattle.sheet.proofs.Rowwise.{sound, one_there, two_there}

-- there are as many classes as rows
pub as_many : (s : Sheet) → vec_len s.classes ≡ vec_len s.rows
as_many s = s.classes.ok.0 ∙ (ap length s.sorts ∙ (length_classes (vec_items s.rows) ∙ sym s.rows.ok.0))

-- a row that is not refused over a sheet's classes
pub fits : (s : Sheet) (cs : List Class) (r : Row) → cs ≡ vec_items s.classes → None ≡ row_refusal cs r → Accepted (vec_items s.rows) r
fits s cs r e h = accepted (vec_items s.rows) r (ap (λ (k : List Class). row_refusal k r) (sym (e ∙ s.sorts)) ∙ sym h)

-- the operands of a row of a sheet are earlier rows
pub row_there : (s : Sheet) (r : ℕ) (x : Row) → r < vec_len s.rows → x ≡ get_or (vec_items s.rows) r x → there r x ≡ true
row_there s r x l e =
    let k = s.rows.ok.0 in
    subst (λ y. there r y ≡ true) (sym e) (sound (vec_items s.rows) r x s.shape (omega arith)).operands

-- a row that is read from a sheet's rows, with any default
pub row_read : (s : Sheet) (xs : List Row) (r : ℕ) (d : Row) → xs ≡ vec_items s.rows → r < length xs → get_or xs r d ≡ get_or (vec_items s.rows) r (get_or xs r d)
row_read s xs r d e l = get_or_default xs r d (get_or xs r d) l ∙ ap (λ ys. get_or ys r (get_or xs r d)) e

-- a class that passes the test for past operands
is_past : (c : Class) → present_or_past c ≡ true → (c ≡ Present) ⊎ (c ≡ Past)
is_past Present h = inl refl
is_past Past h = inr refl
is_past Future h = absurd cc
is_past Mixed h = absurd cc

-- a class that passes the test for future operands
is_future : (c : Class) → present_or_future c ≡ true → (c ≡ Present) ⊎ (c ≡ Future)
is_future Present h = inl refl
is_future Past h = absurd cc
is_future Future h = inr refl
is_future Mixed h = absurd cc

-- a present or past class passes the test for past operands
past_is : (c : Class) → (c ≡ Present) ⊎ (c ≡ Past) → present_or_past c ≡ true
past_is c = ⊎_elim (λ (e : c ≡ Present). ap present_or_past e) (λ (e : c ≡ Past). ap present_or_past e)

-- a present or future class passes the test for future operands
future_is : (c : Class) → (c ≡ Present) ⊎ (c ≡ Future) → present_or_future c ≡ true
future_is c = ⊎_elim (λ (e : c ≡ Present). ap present_or_future e) (λ (e : c ≡ Future). ap present_or_future e)

module _ (rows : List Row) where
  -- an operand whose class passes the test for past operands
  past-at : (a : ℕ) → present_or_past (class_at (classes_of rows) a) ≡ true → PresentOrPast (formula rows a)
  past-at a h = is_past (class (formula rows a)) (ap present_or_past (class_get_or (formulas rows) a) ∙ h)

  -- an operand whose class passes the test for future operands
  future-at : (a : ℕ) → present_or_future (class_at (classes_of rows) a) ≡ true → PresentOrFuture (formula rows a)
  future-at a h = is_future (class (formula rows a)) (ap present_or_future (class_get_or (formulas rows) a) ∙ h)

  -- a present or past operand passes the test for past operands
  at-past : (a : ℕ) → PresentOrPast (formula rows a) → present_or_past (class_at (classes_of rows) a) ≡ true
  at-past a h = ap present_or_past (sym (class_get_or (formulas rows) a)) ∙ past_is (class (formula rows a)) h

  -- a present or future operand passes the test for future operands
  at-future : (a : ℕ) → PresentOrFuture (formula rows a) → present_or_future (class_at (classes_of rows) a) ≡ true
  at-future a h = ap present_or_future (sym (class_get_or (formulas rows) a)) ∙ future_is (class (formula rows a)) h

  -- a row that passes the test of classes has operands that are taken
  taken : (x : Row) → separated (classes_of rows) x ≡ true → OperandsTaken (formula rows) x
  taken row.True s = tt
  taken row.False s = tt
  taken (row.Symbol k) s = tt
  taken (row.Not a) s = tt
  taken (row.And a b) s = tt
  taken (row.Or a b) s = tt
  taken (row.Next a) s = future-at a s
  taken (row.Yest a) s = past-at a s
  taken (row.Until a b) s =
      let q = and_parts (present_or_future (class_at (classes_of rows) a)) (present_or_future (class_at (classes_of rows) b)) s in
      (future-at a q.0, future-at b q.1)
  taken (row.Since a b) s =
      let q = and_parts (present_or_past (class_at (classes_of rows) a)) (present_or_past (class_at (classes_of rows) b)) s in
      (past-at a q.0, past-at b q.1)
  taken row.Start s = tt
  taken row.End s = tt

  -- and the other way
  separate : (x : Row) → OperandsTaken (formula rows) x → separated (classes_of rows) x ≡ true
  separate row.True h = refl
  separate row.False h = refl
  separate (row.Symbol k) h = refl
  separate (row.Not a) h = refl
  separate (row.And a b) h = refl
  separate (row.Or a b) h = refl
  separate (row.Next a) h = at-future a h
  separate (row.Yest a) h = at-past a h
  separate (row.Until a b) h = and_from (present_or_future (class_at (classes_of rows) a)) (present_or_future (class_at (classes_of rows) b)) (at-future a h.0) (at-future b h.1)
  separate (row.Since a b) h = and_from (present_or_past (class_at (classes_of rows) a)) (present_or_past (class_at (classes_of rows) b)) (at-past a h.0) (at-past b h.1)
  separate row.Start h = refl
  separate row.End h = refl

-- a row that passes the test of operands has them there
operands : (n : ℕ) (x : Row) → there n x ≡ true → OperandsThere n x
operands n row.True t = tt
operands n row.False t = tt
operands n (row.Symbol k) t = ltb-true k symbols t
operands n (row.Not a) t = one_there a n t
operands n (row.And a b) t = two_there a b n t
operands n (row.Or a b) t = two_there a b n t
operands n (row.Next a) t = one_there a n t
operands n (row.Yest a) t = one_there a n t
operands n (row.Until a b) t = two_there a b n t
operands n (row.Since a b) t = two_there a b n t
operands n row.Start t = tt
operands n row.End t = tt

-- two numbers that are below a third
both_below : (a b n : ℕ) → (a < n) × (b < n) → (ltb a n && ltb b n) ≡ true
both_below a b n h = and_from (ltb a n) (ltb b n) (lt-ltb a n h.0) (lt-ltb b n h.1)

-- and the other way
passes : (n : ℕ) (x : Row) → OperandsThere n x → there n x ≡ true
passes n row.True h = refl
passes n row.False h = refl
passes n (row.Symbol k) h = lt-ltb k symbols h
passes n (row.Not a) h = lt-ltb a n h
passes n (row.And a b) h = both_below a b n h
passes n (row.Or a b) h = both_below a b n h
passes n (row.Next a) h = lt-ltb a n h
passes n (row.Yest a) h = lt-ltb a n h
passes n (row.Until a b) h = both_below a b n h
passes n (row.Since a b) h = both_below a b n h
passes n row.Start h = refl
passes n row.End h = refl

-- what three tests in a row come to, for any facts that they decide
module _ (rows : List Row) (x : Row) where
  -- the answer by what the three tests said
  tested : (a b c : Bool) → (a ≡ true → length rows < max_rows) → (a ≡ false → max_rows ≤ length rows) → (b ≡ true → OperandsThere (length rows) x) → (b ≡ false → OperandsThere (length rows) x → ⊥) → (c ≡ true → OperandsTaken (formula rows) x) → (c ≡ false → OperandsTaken (formula rows) x → ⊥) → RowAnswered rows x (unless (cond a (cond b (cond c None (Some Unseparated)) (Some BadOperand)) (Some SheetFull)) (length rows))
  tested true true true p p' q q' s s' = (refl, p refl, q refl, s refl)
  tested true true false p p' q q' s s' = (p refl, q refl, s' refl)
  tested true false c p p' q q' s s' = (p refl, q' refl)
  tested false b c p p' q q' s s' = p' refl

  -- the answer to adding a row means what it should
  row-means : RowAnswered rows x (row_answer rows x)
  row-means =
      let cs = classes_of rows in
      let e = length_classes rows in
      let f : there (length cs) x ≡ there (length rows) x = ap (λ k. there k x) e in
      tested (ltb (length cs) max_rows) (there (length cs) x) (separated cs x)
      (λ h. let l = ltb-true (length cs) max_rows h in omega arith)
      (λ h. let l = ltb-false (length cs) max_rows h in omega arith)
      (λ h. operands (length rows) x (sym f ∙ h))
      (λ h k. both_ways (there (length cs) x) h (f ∙ passes (length rows) x k))
      (λ h. taken rows x h)
      (λ h k. both_ways (separated cs x) h (separate rows x k))

-- and so does what equals it
pub row_answered : (rows : List Row) (x : Row) (r : Result ℕ Refusal) → r ≡ row_answer rows x → RowAnswered rows x r
row_answered rows x r e = subst (RowAnswered rows x) (sym e) (row-means rows x)

-- rules whose rows are among the first n
rules_fit : (n : ℕ) (rules : List Rule) → ruled n rules ≡ true → AllByRecursion (RuleFits n) rules
rules_fit n [] h = tt
rules_fit n (x ∷ rules) h =
    let p = and_parts (rule_there n x) (ruled n rules) h in
    (two_there x.activator x.target n p.0, rules_fit n rules p.1)

-- every sheet is well formed
pub well_formed : (s : Sheet) → WellFormed (vec_items s.rows) (vec_items s.rules)
well_formed s =
    let rows = vec_items s.rows in
    let n : vec_len s.rows ≡ length rows = s.rows.ok.0 in
    let m = s.rules.ok.0 in
    let few = s.few in
    let few_rules = s.few_rules in
    record {
      few_rows = omega arith;
      few_rules = omega arith;
      operands_there = λ r l. operands r (get_or rows r row.False) (sound rows r row.False s.shape l).operands;
      operands_taken = λ r l. taken rows (get_or rows r row.False) (sound rows r row.False s.shape l).classes;
      rules_there = rules_fit (length rows) (vec_items s.rules) (ap (λ k. ruled k (vec_items s.rules)) (sym n) ∙ s.pairs);
    }
