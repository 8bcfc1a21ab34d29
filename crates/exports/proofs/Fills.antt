-- The writing of figures into the front of a slice, one after another.
use Rattle.std.proofs.Common.{◌≡◌, ℕ, zero, suc, ◌<◌, List, [], ◌∷◌, ◌++◌, length, get_or, take, drop, set, refl, ap, arith}

-- One more: what is written and what is left meet one place later.
pub put_next : {X : Type 0} (s e : List X) (d : X) (k : ℕ) → k < length s → k < length e
    → set (take k s ++ drop k e) k (get_or s k d) ≡ take (suc k) s ++ drop (suc k) e
put_next [] e d k a b = absurd (omega arith)
put_next (x ∷ s) [] d k a b = absurd (omega arith)
put_next (x ∷ s) (y ∷ e) d zero a b = refl
put_next (x ∷ s) (y ∷ e) d (suc k) a b = ap (λ (t : List _). x ∷ t) (put_next s e d k (omega arith) (omega arith))
