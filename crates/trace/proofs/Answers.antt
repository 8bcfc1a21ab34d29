-- The reading at an instant, inside and outside a trace. Assumes nothing.
use Rattle.std.proofs.Common.{◌≡◌, ℕ, ◌-◌, ◌<◌, ◌⊎◌, List, length, get_or, ◌∙◌, inl, inr, arith}
use Rattle.std.proofs.lemmas.List.{get_or_past}
use Rattle.std.proofs.lemmas.Bool.{cond-true, cond-false, eq-eqb, ne_eqb}
use Rattle.trace.specs.Readings.{Reading, reading_at, outside}

-- at an instant that counts from 1
pub answer_in : (rs : List Reading) (i : ℕ) → 0 < i → reading_at rs i ≡ get_or rs (i - 1) (outside i)
answer_in rs i h = cond-false _ _ _ (ne_eqb i 0 (λ e. omega arith))

-- at 0
pub answer_zero : (rs : List Reading) (i : ℕ) → i ≡ 0 → reading_at rs i ≡ outside i
answer_zero rs i h = cond-true _ _ _ (eq-eqb i 0 h)

-- past the last instant
pub answer_past : (rs : List Reading) (i : ℕ) → length rs < i → reading_at rs i ≡ outside i
answer_past rs i h = answer_in rs i (omega arith) ∙ get_or_past rs (i - 1) (outside i) (omega arith)

-- outside, where the length is n
pub answer_outside : (rs : List Reading) (i n : ℕ) → length rs ≡ n → ((i ≡ 0) ⊎ (n < i)) → reading_at rs i ≡ outside i
answer_outside rs i n e (inl z) = answer_zero rs i z
answer_outside rs i n e (inr h) = answer_past rs i (omega arith)
