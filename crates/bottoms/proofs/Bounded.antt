-- A record's trace, within 1,024 instants and beyond. Assumes nothing.
use Rattle.std.proofs.Common.{◌≡◌, ℕ, zero, suc, ◌-◌, ◌<◌, ◌≤◌, List, [], ◌∷◌, map, length, get_or, Some, None, Ok, Err, sym, refl, ap, ◌∙◌, ⊎_elim, arith}
use Rattle.std.specs.List.{slice_get}
use Rattle.std.proofs.lemmas.List.{length-map}
use Rattle.std.proofs.lemmas.Option.{slice_get-get_or, slice_get_past, get_or_from_slice_get}
use Rattle.std.proofs.lemmas.Bool.{cases_lt, cond-true, cond-false, le-leb, lt-leb}
use Rattle.trace.specs.Readings.{Reading, reading_at, outside, fault, cause_too_long}
use Rattle.bottoms.specs.Records.{Instant, bounded, extent_of}
use Rattle.trace.proofs.Answers.{answer_in}

-- the place of the instant with this index
abbrev pub place_at : List Instant → ℕ → ℕ
place_at xs k = get_or (map (λ x. x.place) xs) k 0

-- the reading of the instant with this index, or d past the last
abbrev pub reading_in : List Instant → ℕ → Reading → Reading
reading_in xs k d = get_or (map (λ x. x.reading) xs) k d

-- within the limit a record is its instants
bounded_short : (xs : List Instant) → length xs ≤ 1024 → bounded xs ≡ map (λ x. x.reading) xs
bounded_short xs h = cond-true _ _ _ (le-leb (length xs) 1024 h)

-- beyond the limit it is one fault at the place of instant 1,025
bounded_long : (xs : List Instant) → 1024 < length xs → bounded xs ≡ fault cause_too_long (place_at xs 1024) ∷ []
bounded_long xs h = cond-false _ _ _ (lt-leb (length xs) 1024 h)

-- its length within the limit
pub len_short : (xs : List Instant) → length xs ≤ 1024 → length (bounded xs) ≡ length xs
len_short xs h = ap length (bounded_short xs h) ∙ length-map xs (λ x. x.reading)

-- its length beyond it
pub len_long : (xs : List Instant) → 1024 < length xs → length (bounded xs) ≡ 1
len_long xs h = ap length (bounded_long xs h)

-- its reading at an instant, within the limit
pub answer_short : (xs : List Instant) (i : ℕ) → length xs ≤ 1024 → 0 < i → reading_at (bounded xs) i ≡ reading_in xs (i - 1) (outside i)
answer_short xs i h k = ap (λ rs. reading_at rs i) (bounded_short xs h) ∙ answer_in (map (λ x. x.reading) xs) i k

-- its reading at an instant, beyond the limit
pub answer_long : (xs : List Instant) (i p : ℕ) → 1024 < length xs → place_at xs 1024 ≡ p → reading_at (bounded xs) i ≡ reading_at (fault cause_too_long p ∷ []) i
answer_long xs i p h e = ap (λ rs. reading_at rs i) (bounded_long xs h) ∙ ap (λ q. reading_at (fault cause_too_long q ∷ []) i) e

-- the extent of a record within the limit
pub extent_short : (xs : List Instant) (n : ℕ) → length xs ≡ n → n ≤ 1024 → Ok n ≡ extent_of xs
extent_short xs n e h = ap Ok (sym e) ∙ sym (cond-true _ _ _ (le-leb (length xs) 1024 (omega arith)))

-- the extent of a record beyond it
pub extent_long : (xs : List Instant) (p : ℕ) → 1024 < length xs → place_at xs 1024 ≡ p → Err p ≡ extent_of xs
extent_long xs p h e = ap Err (sym e) ∙ sym (cond-false _ _ _ (lt-leb (length xs) 1024 h))

-- what a measured extent says
pub short_tells : (xs : List Instant) (n : ℕ) → Ok n ≡ extent_of xs → (length xs ≤ 1024) × (length xs ≡ n)
short_tells xs n e =
    ⊎_elim
    (λ (h : 1024 < length xs).
    let o : extent_of xs ≡ Err (place_at xs 1024) = cond-false _ _ _ (lt-leb (length xs) 1024 h) in
    let z : ◌≡◌ {A = ℕ} 0 1 = cc in absurd (omega arith))
    (λ (h : length xs ≤ 1024).
    let o : extent_of xs ≡ Ok (length xs) = cond-true _ _ _ (le-leb (length xs) 1024 h) in
    (h, (cc)))
    (cases_lt 1024 (length xs))

-- what a measured overlong record says
pub long_tells : (xs : List Instant) (p : ℕ) → Err p ≡ extent_of xs → (1024 < length xs) × (place_at xs 1024 ≡ p)
long_tells xs p e =
    ⊎_elim
    (λ (h : 1024 < length xs).
    let o : extent_of xs ≡ Err (place_at xs 1024) = cond-false _ _ _ (lt-leb (length xs) 1024 h) in
    (h, (cc)))
    (λ (h : length xs ≤ 1024).
    let o : extent_of xs ≡ Ok (length xs) = cond-true _ _ _ (le-leb (length xs) 1024 h) in
    let z : ◌≡◌ {A = ℕ} 0 1 = cc in absurd (omega arith))
    (cases_lt 1024 (length xs))

-- an instant that is there shows its reading
pub shown_in : (xs : List Instant) (k : ℕ) (r : Reading) → k < length xs → reading_in xs k r ≡ r → Some r ≡ slice_get (map (λ x. x.reading) xs) k
shown_in xs k r h e = sym (slice_get-get_or (map (λ x. x.reading) xs) k r (omega (arith, length-map xs (λ x. x.reading))) ∙ ap Some e)

-- past the last nothing is shown
pub shown_past : (xs : List Instant) (k : ℕ) → length xs ≤ k → None ≡ slice_get (map (λ x. x.reading) xs) k
shown_past xs k h = sym (slice_get_past (map (λ x. x.reading) xs) k (omega (arith, length-map xs (λ x. x.reading))))

-- what is not there is the default
none_there : (rs : List Reading) (k : ℕ) (d : Reading) → slice_get rs k ≡ None → get_or rs k d ≡ d
none_there [] k d e = refl
none_there (r ∷ rs) zero d e = let z : ◌≡◌ {A = ℕ} 0 1 = cc in absurd (omega arith)
none_there (r ∷ rs) (suc k) d e = none_there rs k d e

-- The answer at an instant of a record within the limit, by what its index shows.
module _ (xs : List Instant) (n i : ℕ) (measured : Ok n ≡ extent_of xs) (inside : 0 < i) where
  pub answer_shown : (r : Reading) → Some r ≡ slice_get (map (λ x. x.reading) xs) (i - 1) → r ≡ reading_at (bounded xs) i
  answer_shown r e = sym (answer_short xs i (short_tells xs n measured).0 inside ∙ get_or_from_slice_get (map (λ x. x.reading) xs) (i - 1) r (outside i) (sym e))

  pub answer_none : None ≡ slice_get (map (λ x. x.reading) xs) (i - 1) → outside i ≡ reading_at (bounded xs) i
  answer_none e = sym (answer_short xs i (short_tells xs n measured).0 inside ∙ none_there (map (λ x. x.reading) xs) (i - 1) (outside i) (sym e))
