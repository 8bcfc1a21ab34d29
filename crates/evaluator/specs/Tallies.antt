-- A rule's figures of one trace, from the sets of instants at which its activator a and its target t hold.
use Rattle.std.specs.Prelude.{◌≡◌, ℕ, zero, suc, ◌+◌, ◌-◌, ◌*◌, ◌/◌, ◌^◌, ◌≤◌, min, Bool, true, false, ◌&&◌}
use Rattle.std.specs.Bool.{beq}
use Rattle.trace.specs.Symbols.{has}
use Rattle.evaluator.specs.Quantifiers.{In}
use Rattle.evaluator.specs.declared.figures.RuleCount.{RuleCount}
use Rattle.evaluator.specs.declared.instants.Instants.{Instants}

-- a statement has this truth value
abbrev pub Valued : Bool → Type 0 → Type 0
Valued true P = P
Valued false P = P → ⊥

-- the instant is in the first set as the first test says, and in the second as the second
abbrev pub pair : Instants → Bool → Instants → Bool → ℕ → Bool
pair a x t y i = beq (has a.numbers i) x && beq (has t.numbers i) y

-- of the instants 1 to n, so many have the property P
pub data Counted (P : ℕ → Type 0) : ℕ → ℕ → Type 0 where
  start : Counted P zero zero
  one_more : {n c : ℕ} → Counted P n c → P (suc n) → Counted P (suc n) (suc c)
  no_more : {n c : ℕ} → Counted P n c → (P (suc n) → ⊥) → Counted P (suc n) c

-- of the instants 1 to n, in so many the activator has the truth value x and the target the truth value y
abbrev pub Tally : Instants → Instants → Bool → Bool → ℕ → ℕ → Type 0
Tally a t x y n c = Counted (λ i. Valued x (In a i) × Valued y (In t i)) n c

-- the activator holds at one of the instants 1 to n
abbrev pub Triggered : Instants → ℕ → Type 0
Triggered a n = (i : ℕ) × (1 ≤ i) × (i ≤ n) × In a i

-- The figures of a trace of n instants: the four tallies; where the trace is triggered, a 1 and the degree, which is the part of
-- the activator's instants at which the target holds too, in millionths, rounded down; else 0 and 0.
pub record Figured (a t : Instants) (n : ℕ) (f : RuleCount) : Type 0 where
  pub both : Tally a t true true n f.both
  pub act : Tally a t true false n f.act
  pub tgt : Tally a t false true n f.tgt
  pub none : Tally a t false false n f.none
  pub triggered : Triggered a n → (f.triggered ≡ 1) × (f.degree ≡ f.both * 1000000 / (f.both + f.act))
  pub untriggered : (Triggered a n → ⊥) → (f.triggered ≡ 0) × (f.degree ≡ 0)

-- the figures of nothing
abbrev pub no_figures : RuleCount
no_figures = record { both = 0; act = 0; tgt = 0; none = 0; triggered = 0; degree = 0 }

-- a sum, or the largest number of 64 bits where the sum is larger
abbrev pub sum : ℕ → ℕ → ℕ
sum x y = min (x + y) (2 ^ 64 - 1)

-- the sums of two figures
abbrev pub summed : RuleCount → RuleCount → RuleCount
summed f g = record {
  both = sum f.both g.both;
  act = sum f.act g.act;
  tgt = sum f.tgt g.tgt;
  none = sum f.none g.none;
  triggered = sum f.triggered g.triggered;
  degree = sum f.degree g.degree;
}
