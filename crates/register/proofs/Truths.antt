-- Counts by a test that tells the truth are counts over truth itself.
use Rattle.std.proofs.Common.{◌≡◌, ℕ, zero, suc, ◌+◌, ◌≤◌, Bool, true, false, cond, not, ◌&&◌, List, [], ◌∷◌, sum_by, sym, refl, subst, add-zero, add-one, arith}
use Rattle.std.proofs.lemmas.List.Sums.{sum_by-cons}
use Rattle.register.specs.Sums.{count}
use Rattle.register.specs.Tallies.{Valued, Counted, none, hit, miss, Total, empty, more}

-- the test p tells the truth of P at the instants 1 to n
abbrev pub Reflects : ℕ → (ℕ → Bool) → (ℕ → Type 0) → Type 0
Reflects n p P = (i : ℕ) → 1 ≤ i → i ≤ n → Valued (p i) (P i)

-- such a test counts
pub counted : (n : ℕ) (p : ℕ → Bool) (P : ℕ → Type 0) → Reflects n p P → Counted P n (count p n)
counted zero p P h = none
counted (suc n) p P h =
    go (counted n p P (λ i low high. h i low (omega arith))) (p (suc n)) (h (suc n) (omega arith) (omega arith))
  where
    go : Counted P n (count p n) → (b : Bool) → Valued b (P (suc n)) → Counted P (suc n) (count p n + cond b 1 0)
    go ih true v = subst (λ c. Counted P (suc n) c) (sym (add-one (count p n))) (hit ih v)
    go ih false v = subst (λ c. Counted P (suc n) c) (sym (add-zero (count p n))) (miss ih v)

-- and there is only one count
pub counted_once : (p : ℕ → Bool) (P : ℕ → Type 0) (n c : ℕ) → Counted P n c → Reflects n p P → c ≡ count p n
counted_once p P zero zero none h = refl
counted_once p P zero (suc c) x h = elim x [ ]
counted_once p P (suc n) (suc c) (hit k v) h =
    go (counted_once p P n c k (λ i low high. h i low (omega arith))) (p (suc n)) (h (suc n) (omega arith) (omega arith))
  where
    go : c ≡ count p n → (b : Bool) → Valued b (P (suc n)) → suc c ≡ count p n + cond b 1 0
    go ih true w = omega arith
    go ih false w = absurd (w v)
counted_once p P (suc n) c (miss k v) h =
    go (counted_once p P n c k (λ i low high. h i low (omega arith))) (p (suc n)) (h (suc n) (omega arith) (omega arith))
  where
    go : c ≡ count p n → (b : Bool) → Valued b (P (suc n)) → c ≡ count p n + cond b 1 0
    go ih true w = absurd (v w)
    go ih false w = omega arith

-- x where the value is wanted to be true, else its opposite
abbrev pub same : Bool → Bool → Bool
same true x = x
same false x = not x

-- a pair of truth values
pub pair_valued : (x y a b : Bool) (P Q : Type 0) → Valued a P → Valued b Q → Valued (same x a && same y b) (Valued x P × Valued y Q)
pair_valued true true true true P Q v w = (v, w)
pair_valued true true true false P Q v w = λ h. w h.1
pair_valued true true false true P Q v w = λ h. v h.0
pair_valued true true false false P Q v w = λ h. v h.0
pair_valued true false true true P Q v w = λ h. h.1 w
pair_valued true false true false P Q v w = (v, w)
pair_valued true false false true P Q v w = λ h. v h.0
pair_valued true false false false P Q v w = λ h. v h.0
pair_valued false true true true P Q v w = λ h. h.0 v
pair_valued false true true false P Q v w = λ h. h.0 v
pair_valued false true false true P Q v w = (v, w)
pair_valued false true false false P Q v w = λ h. w h.1
pair_valued false false true true P Q v w = λ h. h.0 v
pair_valued false false true false P Q v w = λ h. h.0 v
pair_valued false false false true P Q v w = λ h. h.1 w
pair_valued false false false false P Q v w = (v, w)

-- a sum by a function is the sum of what R gives, where R gives what the function does
pub totalled : {X : Type 0} (R : X → ℕ → Type 0) (f : X → ℕ) → ((x : X) → R x (f x)) → (xs : List X) → Total R xs (sum_by f xs)
totalled R f h [] = empty
totalled R f h (x ∷ xs) = subst (λ n. Total R (x ∷ xs) n) (sym (sum_by-cons f x xs)) (more (h x) (totalled R f h xs))
