-- Counts over instants by a test, and the figures that they give.
use Rattle.std.proofs.Common.{◌≡◌, ℕ, zero, suc, ◌+◌, ◌-◌, ◌*◌, ◌/◌, ◌<◌, ◌≤◌, Bool, true, false, cond, not, ◌&&◌, ltb, ◌↔◌, List, [], ◌∷◌, length, sum_by, sym, refl, ap, ◌∙◌, ap₂, add-zero, add_assoc, div-lt_iff_lt-mul, add_comm, mul-suc, add-one, arith}
use native.Mathlib.Nat.{mul-div_cancel_left, div-le_of_le-mul}
use Rattle.std.specs.List.{AllByRecursion}
use Rattle.std.proofs.lemmas.List.Sums.{sum_by-cons}
use Rattle.std.proofs.lemmas.Bool.{true≢false}
use Rattle.std.proofs.lemmas.Bool.Decides.{nat_tests}
use Rattle.register.specs.Bounds.{Within}
use Rattle.register.specs.Limits.{millionths}
use Rattle.register.specs.Sums.{count, tallied, graded, ticked}
use Rattle.register.specs.declared.figures.Figures.{Figures}

-- two tests agree at the instants 1 to n
abbrev pub Agree : ℕ → (ℕ → Bool) → (ℕ → Bool) → Type 0
Agree n p q = (i : ℕ) → 1 ≤ i → i ≤ n → p i ≡ q i

-- the first instant apart
count_front : (p : ℕ → Bool) (n : ℕ) → count p (suc n) ≡ cond (p 1) 1 0 + count (λ i. p (suc i)) n
count_front p zero = omega arith
count_front p (suc n) = ap (λ x. x + cond (p (suc (suc n))) 1 0) (count_front p n) ∙ add_assoc _ _ _

-- a count from the other end
pub count_flip : (n : ℕ) (p q : ℕ → Bool) → Agree n q (λ i. p (n + 1 - i)) → count q n ≡ count p n
count_flip zero p q h = refl
count_flip (suc n) p q h =
    let last : q (suc n) ≡ p 1 = h (suc n) (omega arith) (omega arith) ∙ ap p (omega arith) in
    let rest : count q n ≡ count (λ i. p (suc i)) n
    = count_flip n (λ i. p (suc i)) q (λ i low high. h i low (omega arith) ∙ ap p (omega arith)) in
    ap₂ (λ x b. x + cond b 1 0) rest last ∙ add_comm _ _ ∙ sym (count_front p n)

-- counts by tests that agree
pub count_same : (n : ℕ) (p q : ℕ → Bool) → Agree n p q → count p n ≡ count q n
count_same zero p q h = refl
count_same (suc n) p q h =
    ap₂ (λ x b. x + cond b 1 0) (count_same n p q (λ i low high. h i low (omega arith))) (h (suc n) (omega arith) (omega arith))

-- a count by whether a second test passes too
pub count_split : (n : ℕ) (p q : ℕ → Bool) → count p n ≡ count (λ i. p i && q i) n + count (λ i. p i && not (q i)) n
count_split zero p q = refl
count_split (suc n) p q = go _ _ _ (p (suc n)) (q (suc n)) (count_split n p q)
  where
    go : (x y z : ℕ) (a b : Bool) → x ≡ y + z
        → x + cond a 1 0 ≡ (y + cond (a && b) 1 0) + (z + cond (a && not b) 1 0)
    go x y z true true e = omega arith
    go x y z true false e = omega arith
    go x y z false true e = omega arith
    go x y z false false e = omega arith

-- where a test passes and where it does not
pub count_not : (n : ℕ) (p : ℕ → Bool) → count p n + count (λ i. not (p i)) n ≡ n
count_not zero p = refl
count_not (suc n) p = go _ _ (p (suc n)) (count_not n p)
  where
    go : (x y : ℕ) (b : Bool) → x + y ≡ n → (x + cond b 1 0) + (y + cond (not b) 1 0) ≡ suc n
    go x y true e = omega arith
    go x y false e = omega arith

-- a count that is not 0 has an instant where the test passes
pub count_some : (n : ℕ) (p : ℕ → Bool) → 0 < count p n → (i : ℕ) × (1 ≤ i) × (i ≤ n) × (p i ≡ true)
count_some zero p h = let no_way : ⊥ = omega arith in absurd no_way
count_some (suc n) p h = go (count_some n p) (p (suc n)) refl h
  where
    go : (0 < count p n → (i : ℕ) × (1 ≤ i) × (i ≤ n) × (p i ≡ true)) → (b : Bool) → p (suc n) ≡ b
        → 0 < count p n + cond b 1 0 → (i : ℕ) × (1 ≤ i) × (i ≤ suc n) × (p i ≡ true)
    go ih true e h = (suc n, omega arith, omega arith, e)
    go ih false e h =
        let x = ih (omega arith) in (x.0, x.1, omega (arith, x.2), x.3)

-- and where the test passes once, the count is not 0
pub some_count : (n : ℕ) (p : ℕ → Bool) (i : ℕ) → 1 ≤ i → i ≤ n → p i ≡ true → 0 < count p n
some_count zero p i low high e = let no_way : ⊥ = omega arith in absurd no_way
some_count (suc n) p i low high e = go (λ h. some_count n p i low h e) (p (suc n)) refl
  where
    go : (i ≤ n → 0 < count p n) → (b : Bool) → p (suc n) ≡ b → 0 < count p n + cond b 1 0
    go ih true f = omega arith
    go ih false f =
        let other : i ≡ suc n → ⊥ = λ h. true≢false (sym e ∙ ap p h ∙ f) in
        let more : 0 < count p n = ih (omega arith) in omega arith

-- every instant has one pair of truth values
pub tallied_adds : (p q : ℕ → Bool) (n : ℕ)
    → (tallied p q n).both + (tallied p q n).act + (tallied p q n).tgt + (tallied p q n).none ≡ n
tallied_adds p q n = omega (arith, count_split n p q, count_split n (λ i. not (p i)) q, count_not n p)

-- one instant more
pub tallied_more : (p q : ℕ → Bool) (i : ℕ) → tallied p q (i + 1) ≡ ticked (tallied p q i) (p (i + 1)) (q (i + 1))
tallied_more p q i = rw add-one refl

-- tallies by tests that agree
pub tallied_same : (n : ℕ) (p q p' q' : ℕ → Bool) → Agree n p p' → Agree n q q' → tallied p q n ≡ tallied p' q' n
tallied_same n p q p' q' hp hq =
    let same : (f : Bool → Bool → Bool) → count (λ i. f (p i) (q i)) n ≡ count (λ i. f (p' i) (q' i)) n
    = λ f. count_same n (λ i. f (p i) (q i)) (λ i. f (p' i) (q' i)) (λ i low high. ap₂ f (hp i low high) (hq i low high)) in
    λ j. record {
      both = same (λ a b. a && b) j;
      act = same (λ a b. a && not b) j;
      tgt = same (λ a b. not a && b) j;
      none = same (λ a b. not a && not b) j;
      triggered = 0;
      degrees = 0;
    }

-- tallies from the other end
pub tallied_flip : (n : ℕ) (p q p' q' : ℕ → Bool) → Agree n p' (λ i. p (n + 1 - i)) → Agree n q' (λ i. q (n + 1 - i))
    → tallied p' q' n ≡ tallied p q n
tallied_flip n p q p' q' hp hq =
    let same : (f : Bool → Bool → Bool) → count (λ i. f (p' i) (q' i)) n ≡ count (λ i. f (p i) (q i)) n
    = λ f. count_flip n (λ i. f (p i) (q i)) (λ i. f (p' i) (q' i)) (λ i low high. ap₂ f (hp i low high) (hq i low high)) in
    λ j. record {
      both = same (λ a b. a && b) j;
      act = same (λ a b. a && not b) j;
      tgt = same (λ a b. not a && b) j;
      none = same (λ a b. not a && not b) j;
      triggered = 0;
      degrees = 0;
    }

-- a share in millionths is at most a whole, and a whole only where nothing is missing
share : (b a : ℕ) → 0 < b + a
    → (b * millionths / (b + a) ≤ millionths) × ((b * millionths / (b + a) ≡ millionths) ↔ (a ≡ 0))
share b a h = (div-le_of_le-mul (b + a) (omega arith), (to, from))
  where
    to : b * millionths / (b + a) ≡ millionths → a ≡ 0
    to e = go a refl
      where
        go : (x : ℕ) → a ≡ x → a ≡ 0
        go zero f = f
        go (suc x) f =
            let less : b * millionths / (b + a) < millionths = (div-lt_iff_lt-mul h).1 (omega arith) in
            let no_way : ⊥ = omega arith in absurd no_way

    from : a ≡ 0 → b * millionths / (b + a) ≡ millionths
    from e = ap (λ x. b * millionths / (b + x)) e ∙ ap (λ x. b * millionths / x) (add-zero b) ∙ mul-div_cancel_left millionths (omega arith)

-- the degree of a trace is at most a whole
pub degree_le : (f : Figures) → (graded f).degrees ≤ millionths
degree_le f = go (ltb 0 (f.both + f.act)) refl
  where
    go : (x : Bool) → ltb 0 (f.both + f.act) ≡ x → cond x (f.both * millionths / (f.both + f.act)) 0 ≤ millionths
    go true e = (share f.both f.act (grind (arith, nat_tests))).0
    go false e = omega arith

-- and a whole exactly where the activator held, and never alone
pub degree_full : (f : Figures) → ((graded f).degrees ≡ millionths) ↔ ((0 < f.both + f.act) × (f.act ≡ 0))
degree_full f = go (ltb 0 (f.both + f.act)) refl
  where
    go : (x : Bool) → ltb 0 (f.both + f.act) ≡ x
        → (cond x (f.both * millionths / (f.both + f.act)) 0 ≡ millionths) ↔ ((0 < f.both + f.act) × (f.act ≡ 0))
    go true e =
        let some : 0 < f.both + f.act = grind (arith, nat_tests) in
        let both : (f.both * millionths / (f.both + f.act) ≡ millionths) ↔ (f.act ≡ 0) = (share f.both f.act some).1 in
        ((λ h. (some, both.0 h)), λ h. both.1 h.1)
    go false e =
        let none : f.both + f.act ≤ 0 = grind (arith, nat_tests) in
        ((λ h. let no_way : ⊥ = omega arith in absurd no_way), λ h. let no_way : ⊥ = omega (arith, h.0) in absurd no_way)

-- a trigger is 0 or 1
pub trigger_le : (f : Figures) → (graded f).triggered ≤ 1
trigger_le f = go (ltb 0 (f.both + f.act))
  where
    go : (b : Bool) → cond b 1 0 ≤ 1
    go true = omega arith
    go false = omega arith

-- the figures of a trace of n instants are within n
pub graded_within : (p q : ℕ → Bool) (n : ℕ) → Within 1 n (graded (tallied p q n))
graded_within p q n = (omega (arith, tallied_adds p q n), trigger_le (tallied p q n), degree_le (tallied p q n))

-- a sum of numbers of at most m is m times their number where each of them is m
pub sum_full : {X : Type 0} (f : X → ℕ) (m : ℕ) → ((x : X) → f x ≤ m) → (xs : List X)
    → (sum_by f xs ≤ m * length xs) × ((sum_by f xs ≡ m * length xs) ↔ AllByRecursion (λ x. f x ≡ m) xs)
sum_full f m le [] = (omega arith, ((λ h. tt), λ h. omega arith))
sum_full {X} f m le (x ∷ xs) = rw (sum_by-cons f x xs) (go (sum_full f m le xs) (le x) (mul-suc m (length xs)))
  where
    go : (sum_by f xs ≤ m * length xs) × ((sum_by f xs ≡ m * length xs) ↔ AllByRecursion (λ y. f y ≡ m) xs)
        → f x ≤ m → m * suc (length xs) ≡ m * length xs + m
        → (f x + sum_by f xs ≤ m * suc (length xs)) × ((f x + sum_by f xs ≡ m * suc (length xs)) ↔ ((f x ≡ m) × AllByRecursion (λ y. f y ≡ m) xs))
    go ih one two = (
      omega arith,
      (
        (λ h. (omega arith, ih.1.0 (omega arith))),
        λ h. let rest : sum_by f xs ≡ m * length xs = ih.1.1 h.1 in omega arith,
      ),
    )
