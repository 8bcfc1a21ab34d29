-- Lists that are made by adding at their end.
use Rattle.std.proofs.Common.{◌≡◌, ℕ, ◌+◌, ◌/◌, ◌%◌, ◌<◌, ◌≤◌, Bool, true, false, cond, ◌≢◌, List, [], ◌∷◌, ◌++◌, length, get_or, take, is_ok, Result, sym, refl, ap, ◌∙◌, subst, ⊎_elim, arith}
use Rattle.std.proofs.lemmas.List.{length_push, get_or_push, get_or_append_left, take_more}
use Rattle.std.proofs.lemmas.Bool.{cases_eq}
use Rattle.sheet.specs.Sheets.{grown}
use Rattle.sheet.specs.declared.refusal.Refusal.{Refusal}
use Rattle.sampling.specs.Lists.{Each, snapshots}

-- one element more that has the property
pub each_more : (P : ℕ → Type 0) (n x : ℕ) (xs ys : List ℕ) → ys ≡ xs ++ x ∷ [] → P x → Each P n xs → Each P (n + 1) ys
each_more P n x xs ys e p h = rw e (omega (arith, length_push xs x, h.0), each)
  where
    each : (k : ℕ) → k < n + 1 → P (get_or (xs ++ x ∷ []) k 0)
    each k l =
        ⊎_elim
        (λ (s : length xs ≡ k). subst P (sym (get_or_push xs x 0 k s)) p)
        (λ (s : length xs ≢ k).
        let below : k < length xs = omega (arith, h.0) in
        subst P (sym (get_or_append_left xs (x ∷ []) 0 k below)) (h.1 k (omega (arith, h.0))))
        (cases_eq (length xs) k)

-- the snapshots of a trace with one instant more
snapshots_push : (xs : List ℕ) (x : ℕ) → snapshots (xs ++ x ∷ []) ≡ (snapshots xs ++ x / 256 % 256 ∷ []) ++ x % 256 ∷ []
snapshots_push [] x = refl
snapshots_push (y ∷ xs) x = ap (λ zs. y / 256 % 256 ∷ y % 256 ∷ zs) (snapshots_push xs x)

-- one instant more of a trace
pub snapshots_more : (trace : List ℕ) (k : ℕ) → k < length trace → snapshots (take (k + 1) trace) ≡ (snapshots (take k trace) ++ get_or trace k 0 / 256 % 256 ∷ []) ++ get_or trace k 0 % 256 ∷ []
snapshots_more trace k l = ap snapshots (take_more trace k 0 l) ∙ snapshots_push (take k trace) (get_or trace k 0)

-- a call that adds at most one element
pub grown_few : {X : Type 0} (r : Result ℕ Refusal) (xs ys : List X) (x : X) (k : ℕ) → ys ≡ grown r xs x → length xs ≤ k → length ys ≤ k + 1
grown_few r xs ys x k e h = rw e (go (is_ok r))
  where
    go : (b : Bool) → length (cond b (xs ++ x ∷ []) xs) ≤ k + 1
    go true = omega (arith, length_push xs x)
    go false = omega arith
