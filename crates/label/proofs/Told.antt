-- What the cells of a labelled strip tell.
use Rattle.std.proofs.Common.{◌≡◌, ℕ, ◌*◌, ◌<◌, ◌≤◌, Bool, true, false, cond, leb, List, ◌++◌, length, get_or, drop, Ok, Err, Result, sym, ap, ◌∙◌, subst, arith}
use Rattle.label.specs.Labels.{label_at}
use Rattle.sheet.specs.Sheets.{formula}
use Rattle.label.specs.Strips.{cell, label_answer, labelled}
use Rattle.label.specs.Theorems.{Tells, Truly, Finally}
use Rattle.label.specs.Truth.{Holds}
use Rattle.label.specs.declared.refusal.Refusal.{Refusal}
use Rattle.sheet.specs.declared.row.Row.{Row}
use Rattle.trace.specs.Readings.{Reading}
use Rattle.label.specs.declared.verdict.Verdict.{Verdict}
use Rattle.label.specs.declared.verdict.Verdict.TheVariants.{No, Open}
use Rattle.label.proofs.Blocks.{labels_at}
use Rattle.label.proofs.Truths.{settled, standing}

-- an answer that is accepted tells the number of instants
pub answer_count : (b : Bool) (n m : ℕ) (x : Refusal) → ◌≡◌ {A = Result ℕ Refusal} (Ok n) (cond b (Ok m) (Err x)) → n ≡ m
answer_count true n m x h = cc
answer_count false n m x h = cc

module _ (rs : List Reading) (rows : List Row) (k cells : ℕ) (was strip : List Verdict) where
  -- each cell holds the label of its row
  cell-is : (e : Verdict) (n : ℕ) → ◌≡◌ {A = Result ℕ Refusal} (Ok n) (label_answer (length rs) k cells) → strip ≡ labelled (Ok n) e rs rows was → (i r : ℕ) → 1 ≤ i → i ≤ n → r < length rows → label_at e rs rows i r ≡ get_or strip (cell (length rows) i r) No
  cell-is e n a s i r l h u =
      let count = answer_count (leb (length rs * k) cells) n (length rs) _ a in
      sym (ap (λ xs. get_or xs (cell (length rows) i r) No) s ∙ labels_at e rs rows (drop (length rs * length rows) was) i r l (omega arith) u)

  -- settled cells tell the truth
  pub truly : (o : Result ℕ Refusal) → o ≡ label_answer (length rs) k cells → strip ≡ labelled o No rs rows was → Truly o rs rows strip
  truly (Ok n) a s = λ i r l h u.
      let count = answer_count (leb (length rs * k) cells) n (length rs) _ a in
      subst (λ v. Tells v (Holds rs (formula rows r) i) × (v ≡ Open → ⊥)) (cell-is No n a s i r l h u) (settled rs (formula rows r) i l (omega arith))
  truly (Err x) a s = tt

  -- standing cells tell what stays
  pub finally : (o : Result ℕ Refusal) → o ≡ label_answer (length rs) k cells → strip ≡ labelled o Open rs rows was → Finally o rs rows strip
  finally (Ok n) a s = λ more i r l h u.
      let count = answer_count (leb (length rs * k) cells) n (length rs) _ a in
      subst (λ v. Tells v (Holds (rs ++ more) (formula rows r) i)) (cell-is Open n a s i r l h u) (standing rs more (formula rows r) i l (omega arith))
  finally (Err x) a s = tt
