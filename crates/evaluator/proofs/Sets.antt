-- Sets that have exactly the instants with a property.
use Rattle.std.proofs.Common.{ℕ, ◌≤◌, Bool}
use Rattle.std.specs.Prelude.{Decides}
use Rattle.trace.specs.Symbols.{has}
use Rattle.evaluator.specs.Quantifiers.{In, Exactly, Answered}
use Rattle.evaluator.specs.declared.instants.Instants.{Instants}

-- the empty set, where no instant has the property
pub exactly_none : (s : Instants) (n : ℕ) (P : ℕ → Type 0) → ((i : ℕ) → In s i → ⊥) → ((i : ℕ) → P i → ⊥) → Exactly s n P
exactly_none s n P none never = record { inside = λ i h. absurd (none i h); all = λ i low high p. absurd (never i p) }

-- another property that the same instants have
pub exactly_same : (s : Instants) (n : ℕ) (P Q : ℕ → Type 0) → ((i : ℕ) → 1 ≤ i → i ≤ n → P i → Q i) → ((i : ℕ) → 1 ≤ i → i ≤ n → Q i → P i) → Exactly s n P → Exactly s n Q
exactly_same s n P Q to from e =
    record {
      inside = λ i h. let x = e.inside i h in (x.0, x.1, to i x.0 x.1 x.2);
      all = λ i low high q. e.all i low high (from i low high q);
    }

-- the instants at which a test passes that decides whether an instant has the property
pub exactly_answered : (s : Instants) (n : ℕ) (Answer : ℕ → Bool → Type 0) (P : ℕ → Type 0) → ((i : ℕ) (b : Bool) → 1 ≤ i → i ≤ n → Answer i b → Decides b (P i)) → Answered s n Answer → Exactly s n P
exactly_answered s n Answer P decides told = record {
  inside = λ i h. let w = told.within i h in (w.0, w.1, (decides i (has s.numbers i) w.0 w.1 (told.told i w.0 w.1)).0 h);
  all = λ i low high p. (decides i (has s.numbers i) low high (told.told i low high)).1 p;
}
