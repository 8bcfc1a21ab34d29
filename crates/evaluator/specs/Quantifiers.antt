-- Sets of instants, and what until and since ask of the instants at which their operands hold: the quantifiers of their definitions.
use Rattle.std.specs.Prelude.{◌≡◌, ℕ, ◌<◌, ◌≤◌, Bool, true}
use Rattle.trace.specs.Symbols.{has}
use Rattle.evaluator.specs.declared.instants.Instants.{Instants}

-- the instant is in the set
abbrev pub In : Instants → ℕ → Type 0
In s i = has s.numbers i ≡ true

-- the set has exactly those of the instants 1 to n that have the property P
pub record Exactly (s : Instants) (n : ℕ) (P : ℕ → Type 0) : Type 0 where
  pub inside : (i : ℕ) → In s i → (1 ≤ i) × (i ≤ n) × P i
  pub all : (i : ℕ) → 1 ≤ i → i ≤ n → P i → In s i

-- the set has only instants from 1 to n, and of each of these it tells the answer
pub record Answered (s : Instants) (n : ℕ) (Answer : ℕ → Bool → Type 0) : Type 0 where
  pub within : (i : ℕ) → In s i → (1 ≤ i) × (i ≤ n)
  pub told : (i : ℕ) → 1 ≤ i → i ≤ n → Answer i (has s.numbers i)

-- every k with from ≤ k < to has the property A
abbrev pub AllIn : (ℕ → Type 0) → ℕ → ℕ → Type 0
AllIn A from to = (k : ℕ) → from ≤ k → k < to → A k

-- every k with after < k ≤ through has the property A
abbrev pub AllAfter : (ℕ → Type 0) → ℕ → ℕ → Type 0
AllAfter A after through = (k : ℕ) → after < k → k ≤ through → A k

-- B holds at some j from i to n, and A at every k with i ≤ k < j
abbrev pub UntilAt : (ℕ → Type 0) → (ℕ → Type 0) → ℕ → ℕ → Type 0
UntilAt A B n i = (j : ℕ) × (i ≤ j) × (j ≤ n) × B j × ((k : ℕ) → i ≤ k → k < j → A k)

-- B holds at some j from 1 to i, and A at every k with j < k ≤ i
abbrev pub SinceAt : (ℕ → Type 0) → (ℕ → Type 0) → ℕ → Type 0
SinceAt A B i = (j : ℕ) × (1 ≤ j) × (j ≤ i) × B j × ((k : ℕ) → j < k → k ≤ i → A k)
