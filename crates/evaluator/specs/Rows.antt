-- A row's operands, and when it holds at an instant by the instants at which they do.
use Rattle.std.specs.Prelude.{◌≡◌, ℕ, ◌+◌, ◌-◌, ◌<◌, true, ◌⊎◌, Some, None, Option}
use Rattle.trace.specs.Symbols.{has, bit_set, set_where}
use Rattle.sheet.specs.declared.row.Row.{Row}
use Rattle.sheet.specs.declared.row.Row.TheVariants.{True, False, Symbol, Not, And, Or, Next, Yest, Until, Since, Start, End}
use Rattle.evaluator.specs.Quantifiers.{UntilAt, SinceAt}

-- the number of a row's first operand, if it has one
abbrev pub first_operand : Row → Option ℕ
first_operand True = None
first_operand False = None
first_operand (Symbol s) = None
first_operand (Not x) = Some x
first_operand (And x y) = Some x
first_operand (Or x y) = Some x
first_operand (Next x) = Some x
first_operand (Yest x) = Some x
first_operand (Until x y) = Some x
first_operand (Since x y) = Some x
first_operand Start = None
first_operand End = None

-- the number of a row's second operand, if it has one
abbrev pub second_operand : Row → Option ℕ
second_operand True = None
second_operand False = None
second_operand (Symbol s) = None
second_operand (Not x) = None
second_operand (And x y) = Some y
second_operand (Or x y) = Some y
second_operand (Next x) = None
second_operand (Yest x) = None
second_operand (Until x y) = Some y
second_operand (Since x y) = Some y
second_operand Start = None
second_operand End = None

-- The row holds at instant i of n, where these symbols hold there, and its operands hold at the instants that have the properties
-- A and B.
abbrev pub HoldsAt : Row → ℕ → (ℕ → Type 0) → (ℕ → Type 0) → ℕ → ℕ → Type 0
HoldsAt True symbols A B n i = Unit {0}
HoldsAt False symbols A B n i = ⊥
HoldsAt (Symbol s) symbols A B n i = has (set_where (bit_set symbols)) s ≡ true
HoldsAt (Not x) symbols A B n i = A i → ⊥
HoldsAt (And x y) symbols A B n i = A i × B i
HoldsAt (Or x y) symbols A B n i = A i ⊎ B i
HoldsAt (Next x) symbols A B n i = (i < n) × A (i + 1)
HoldsAt (Yest x) symbols A B n i = (1 < i) × A (i - 1)
HoldsAt (Until x y) symbols A B n i = UntilAt A B n i
HoldsAt (Since x y) symbols A B n i = SinceAt A B i
HoldsAt Start symbols A B n i = i ≡ 1
HoldsAt End symbols A B n i = i ≡ n
