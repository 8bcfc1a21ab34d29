-- One line of a rules file after another.
use Rattle.std.proofs.Common.{◌≡◌, ℕ, ◌+◌, List, [], ◌∷◌, Ok, Err, Result, sym, refl, subst, inl, inr}
use Rattle.sheet.specs.Refusals.{accepted, refused}
use Rattle.text.specs.Refusals.{code}
use Rattle.text.specs.declared.refusal.TextRefusal.{TextRefusal}
use Rattle.register.specs.Contents.{Content}
use Rattle.report.specs.Rules.{Takes, Ruled}
use Rattle.report.specs.declared.rules.RefusedLine.{RefusedLine}

-- No line is left.
pub all_at : (k : ℕ) (ls : List (List ℕ)) (c : Content) → ls ≡ [] → Ruled k ls c (Ok tt) c
all_at k ls c e = subst (λ (x : List (List ℕ)). Ruled k x c (Ok tt) c) (sym e) (refl, refl)

-- The first line is accepted.
pub more_at : (k n : ℕ) (ls : List (List ℕ)) (line : List ℕ) (rest : List (List ℕ)) (c after last : Content) (r : Result (Unit {0}) RefusedLine)
    → ls ≡ line ∷ rest → Takes line c (accepted n) after → Ruled (k + 1) rest after r last → Ruled k ls c r last
more_at k n ls line rest c after last r e t d = subst (λ (x : List (List ℕ)). Ruled k x c r last) (sym e) (inl (n, after, t, d))

-- The first line is refused.
pub stop_at : (k : ℕ) (ls : List (List ℕ)) (line : List ℕ) (rest : List (List ℕ)) (c after : Content) (why : TextRefusal)
    → ls ≡ line ∷ rest → Takes line c (refused (code why)) after → Ruled k ls c (Err (record { number = k + 1; refusal = why })) after
stop_at k ls line rest c after why e t =
    subst (λ (x : List (List ℕ)). Ruled k x c (Err (record { number = k + 1; refusal = why })) after) (sym e) (inr (why, t, refl))
