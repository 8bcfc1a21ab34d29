-- What stands on a trace that may go on: by the standing verdicts, and by the instants at which a row's operands stand.
use Rattle.std.specs.Prelude.{◌≡◌, ℕ, ◌+◌, ◌<◌, ◌≤◌, Bool, true, false, ◌⊎◌, List, length, ◌≢◌}
use Rattle.label.specs.Labels.{verdict}
use Rattle.label.specs.declared.verdict.Verdict.{Verdict}
use Rattle.label.specs.declared.verdict.Verdict.TheVariants.{No, Open, Yes}
use Rattle.sheet.specs.Sheets.{formula}
use Rattle.sheet.specs.declared.row.Row.{Row}
use Rattle.sheet.specs.declared.row.Row.TheVariants as row
use Rattle.evaluator.specs.Quantifiers.{Exactly, AllIn, UntilAt}
use Rattle.evaluator.specs.Rows.{HoldsAt}
use Rattle.evaluator.specs.Truths.{readings}
use Rattle.evaluator.specs.declared.instants.Instants.{Instants}
use Rattle.evaluator.specs.declared.standing.Bounds.{Bounds}

-- the set has exactly the instants of the trace at which the row numbered r stands at yes
abbrev pub WhereSure : List Row → List ℕ → ℕ → Instants → Type 0
WhereSure rows trace r s = Exactly s (length trace) (λ i. verdict Open (readings trace) (formula rows r) i ≡ Yes)

-- the set has exactly the instants of the trace at which the row numbered r does not stand at no
abbrev pub WherePossible : List Row → List ℕ → ℕ → Instants → Type 0
WherePossible rows trace r s = Exactly s (length trace) (λ i. verdict Open (readings trace) (formula rows r) i ≢ No)

-- a verdict counts as holding, where open counts as the test says
abbrev pub counts : Bool → Verdict → Bool
counts y No = false
counts y Open = y
counts y Yes = true

-- the instants at which a row with these bounds counts as holding, where open counts as the test says
abbrev pub counted : Bool → Bounds → Instants
counted false b = b.surely
counted true b = b.possibly

-- the set has exactly the instants of the trace at which the standing verdict of the row numbered r counts as holding
abbrev pub WhereStands : Bool → List Row → List ℕ → ℕ → Instants → Type 0
WhereStands y rows trace r s = Exactly s (length trace) (λ i. counts y (verdict Open (readings trace) (formula rows r) i) ≡ true)

-- The row counts as holding at instant i of n, where these symbols hold there, and its operands count so at the instants that have
-- the properties A and B; its first operand, with open counted the other way, at those that have the property O. What lies beyond
-- n is open, and counts as the test y says. Only not, next, until and end ask more than to hold.
abbrev pub StandsAt : Row → ℕ → (ℕ → Type 0) → (ℕ → Type 0) → (ℕ → Type 0) → Bool → ℕ → ℕ → Type 0
StandsAt row.True symbols A B O y n i = HoldsAt row.True symbols A B n i
StandsAt row.False symbols A B O y n i = HoldsAt row.False symbols A B n i
StandsAt (row.Symbol s) symbols A B O y n i = HoldsAt (row.Symbol s) symbols A B n i
StandsAt (row.Not a) symbols A B O y n i = O i → ⊥
StandsAt (row.And a b) symbols A B O y n i = HoldsAt (row.And a b) symbols A B n i
StandsAt (row.Or a b) symbols A B O y n i = HoldsAt (row.Or a b) symbols A B n i
StandsAt (row.Next a) symbols A B O y n i = ((i < n) × A (i + 1)) ⊎ ((n ≤ i) × (y ≡ true))
StandsAt (row.Yest a) symbols A B O y n i = HoldsAt (row.Yest a) symbols A B n i
StandsAt (row.Until a b) symbols A B O y n i = UntilAt A B n i ⊎ ((y ≡ true) × AllIn A i (n + 1))
StandsAt (row.Since a b) symbols A B O y n i = HoldsAt (row.Since a b) symbols A B n i
StandsAt row.Start symbols A B O y n i = HoldsAt row.Start symbols A B n i
StandsAt row.End symbols A B O y n i = (i ≡ n) × (y ≡ true)
