-- A rule's figures over traces, counted over truth itself: in how many instants activator and target have which truth values,
-- which traces are triggered, and their degrees. Here a is the activator and t the target.
use Rattle.std.specs.Prelude.{◌≡◌, ℕ, zero, suc, ◌+◌, ◌*◌, ◌/◌, ◌≤◌, Bool, true, false, ◌⊎◌, List, [], ◌∷◌, length}
use Rattle.std.specs.List.{AllByRecursion}
use Rattle.label.specs.Truth.{Holds}
use Rattle.sheet.specs.Formulas.{Formula}
use Rattle.register.specs.Contents.{Trace}
use Rattle.register.specs.Limits.{millionths}
use Rattle.register.specs.declared.figures.Figures.{Figures}

-- a statement has this truth value
abbrev pub Valued : Bool → Type 0 → Type 0
Valued true P = P
Valued false P = P → ⊥

-- of the instants 1 to n, so many have the property P
pub data Counted (P : ℕ → Type 0) : ℕ → ℕ → Type 0 where
  none : Counted P zero zero
  hit : {n c : ℕ} → Counted P n c → P (suc n) → Counted P (suc n) (suc c)
  miss : {n c : ℕ} → Counted P n c → (P (suc n) → ⊥) → Counted P (suc n) c

-- the sum, over a list, of the numbers that R gives to its elements
pub data Total {X : Type 0} (R : X → ℕ → Type 0) : List X → ℕ → Type 0 where
  empty : Total R [] zero
  more : {x : X} {xs : List X} {m n : ℕ} → R x m → Total R xs n → Total R (x ∷ xs) (m + n)

-- in n instants of the trace the activator has the truth value x and the target the truth value y
abbrev pub Tally : Formula → Formula → Bool → Bool → Trace → ℕ → Type 0
Tally a t x y rs n = Counted (λ i. Valued x (Holds rs a i) × Valued y (Holds rs t i)) (length rs) n

-- the activator holds somewhere in the trace
abbrev pub Triggered : Formula → Trace → Type 0
Triggered a rs = (i : ℕ) × (1 ≤ i) × (i ≤ length rs) × Holds rs a i

-- 1 for a trace that is triggered, and 0 for another
abbrev pub Trigger : Formula → Trace → ℕ → Type 0
Trigger a rs n = (Triggered a rs × (n ≡ 1)) ⊎ ((Triggered a rs → ⊥) × (n ≡ 0))

-- The degree of a trace: of the instants where the activator holds, the part where the target holds too, in millionths, rounded
-- down; 0 if it is not triggered.
pub record Degree (a t : Formula) (rs : Trace) (d : ℕ) : Type 0 where
  pub both : ℕ
  pub act : ℕ
  pub both_counted : Tally a t true true rs both
  pub act_counted : Tally a t true false rs act
  pub triggered : Triggered a rs → d ≡ both * millionths / (both + act)
  pub untriggered : (Triggered a rs → ⊥) → d ≡ 0

-- The figures of a rule over traces: the four tallies, the number of triggered traces, and the sum of the degrees.
pub record Figured (a t : Formula) (traces : List Trace) (f : Figures) : Type 0 where
  pub both : Total (Tally a t true true) traces f.both
  pub act : Total (Tally a t true false) traces f.act
  pub tgt : Total (Tally a t false true) traces f.tgt
  pub none : Total (Tally a t false false) traces f.none
  pub triggered : Total (Trigger a) traces f.triggered
  pub degrees : Total (Degree a t) traces f.degrees

-- every trace is triggered, and its activator never holds alone
abbrev pub Spotless : Formula → Formula → List Trace → Type 0
Spotless a t traces = AllByRecursion (λ rs. Triggered a rs × Tally a t true false rs 0) traces
