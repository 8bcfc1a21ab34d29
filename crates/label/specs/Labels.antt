-- The labelling rules: the verdict of a formula at an instant, with the verdict beyond the last event given.
use Rattle.std.specs.Prelude.{ℕ, zero, suc, ◌+◌, ◌-◌, cond, List, length, nat_lt}
use Rattle.sheet.specs.Formulas.{Formula, True, False, Symbol, Not, And, Or, Next, Yest, Until, Since, Start, End}
use Rattle.trace.specs.Readings.{Reading, reading_at, shows}
use Rattle.sheet.specs.Sheets.{formula}
use Rattle.label.specs.Verdicts.{lower, higher, swapped, yes_if}
use Rattle.sheet.specs.declared.row.Row.{Row}
use Rattle.label.specs.declared.verdict.Verdict.{Verdict}
use Rattle.label.specs.declared.verdict.Verdict.TheVariants.{No, Yes}

-- until at i, when k instants follow it: a and b give the operands' verdicts, e is the verdict beyond
abbrev pub until_from : (ℕ → Verdict) → (ℕ → Verdict) → Verdict → ℕ → ℕ → Verdict
until_from a b e zero i = higher (b i) (lower (a i) e)
until_from a b e (suc k) i = higher (b i) (lower (a i) (until_from a b e k (i + 1)))

-- since at the instant that k instants precede
abbrev pub since_to : (ℕ → Verdict) → (ℕ → Verdict) → ℕ → Verdict
since_to a b zero = b 1
since_to a b (suc k) = higher (b (k + 2)) (lower (a (k + 2)) (since_to a b k))

-- the verdict of a formula at instant i
abbrev pub verdict : Verdict → List Reading → Formula → ℕ → Verdict
verdict e rs True i = Yes
verdict e rs False i = No
verdict e rs (Symbol s) i = yes_if (shows (reading_at rs i) s)
verdict e rs (Not a) i = swapped (verdict e rs a i)
verdict e rs (And a b) i = lower (verdict e rs a i) (verdict e rs b i)
verdict e rs (Or a b) i = higher (verdict e rs a i) (verdict e rs b i)
verdict e rs (Next a) i = cond (nat_lt i (length rs)) (verdict e rs a (i + 1)) e
verdict e rs (Yest a) i = cond (nat_lt 1 i) (verdict e rs a (i - 1)) No
verdict e rs (Until a b) i = until_from (verdict e rs a) (verdict e rs b) e (length rs - i) i
verdict e rs (Since a b) i = since_to (verdict e rs a) (verdict e rs b) (i - 1)
verdict e rs Start i = cond (nat_lt 1 i) No Yes
verdict e rs End i = cond (nat_lt i (length rs)) No (swapped e)

-- the verdict of the row numbered r at instant i
abbrev pub label_at : Verdict → List Reading → List Row → ℕ → ℕ → Verdict
label_at e rs rows i r = verdict e rs (formula rows r) i
