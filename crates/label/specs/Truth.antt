-- Truth of a formula at an instant of a finite trace, in the words of linear temporal logic with past.
use Rattle.std.specs.Prelude.{◌≡◌, ℕ, ◌+◌, ◌-◌, ◌<◌, ◌≤◌, true, ◌⊎◌, List, length}
use Rattle.sheet.specs.Formulas.{Formula, True, False, Symbol, Not, And, Or, Next, Yest, Until, Since, Start, End}
use Rattle.trace.specs.Readings.{Reading, reading_at, shows}

-- The formula holds at instant i of the trace, whose n instants count from 1: a symbol where it is in the reading; next a where
-- i < n and a holds at i + 1; yest a where 1 < i and a holds at i - 1; a until b where b holds at some j from i to n and a at
-- every k with i ≤ k < j; a since b where b holds at some j from 1 to i and a at every k with j < k ≤ i; start at 1 only, end
-- at n only.
abbrev pub Holds : List Reading → Formula → ℕ → Type 0
Holds rs True i = Unit {0}
Holds rs False i = ⊥
Holds rs (Symbol s) i = shows (reading_at rs i) s ≡ true
Holds rs (Not a) i = Holds rs a i → ⊥
Holds rs (And a b) i = Holds rs a i × Holds rs b i
Holds rs (Or a b) i = Holds rs a i ⊎ Holds rs b i
Holds rs (Next a) i = (i < length rs) × Holds rs a (i + 1)
Holds rs (Yest a) i = (1 < i) × Holds rs a (i - 1)
Holds rs (Until a b) i = (j : ℕ) × (i ≤ j) × (j ≤ length rs) × Holds rs b j × ((k : ℕ) → i ≤ k → k < j → Holds rs a k)
Holds rs (Since a b) i = (j : ℕ) × (1 ≤ j) × (j ≤ i) × Holds rs b j × ((k : ℕ) → j < k → k ≤ i → Holds rs a k)
Holds rs Start i = i ≡ 1
Holds rs End i = i ≡ length rs
