-- A record of runs, one pair after another. Assumes nothing.
use Rattle.std.proofs.Common.{◌≡◌, ℕ, zero, suc, ◌+◌, ◌*◌, ◌%◌, ◌<◌, ◌≤◌, eqb, false, List, [], ◌∷◌, ◌++◌, map, length, get_or, drop, replicate, Some, None, Err, sym, refl, ap, ◌∙◌, arith, length-append}
use Rattle.std.specs.Option.{option_map}
use Rattle.std.specs.List.{slice_get}
use Rattle.std.specs.Simd.{first_chunks}
use Rattle.std.proofs.lemmas.List.{drop_more, drop_all, length-replicate}
use Rattle.std.proofs.lemmas.Bool.{eqb-false}
use Rattle.std.proofs.lemmas.Option.{slice_get-map}
use Rattle.bottoms.specs.Records.{Instant, runs, run_length, code_reading, lone, extent_of}
use Rattle.bottoms.proofs.Bounded.{place_at, extent_long}

-- how many instants a pair stands for, and what each of them shows
abbrev pub count : List ℕ → ℕ
count c = run_length (get_or c 1 0)

abbrev pub instant : ℕ → List ℕ → Instant
instant p c = record { place = p; reading = code_reading p (get_or c 0 0) }

-- the instants of pairs from the place p on, and of the bytes that are left
abbrev pub paired : ℕ → List (List ℕ) → List ℕ → List Instant
paired p [] bs = runs p bs
paired p (c ∷ cs) bs = replicate (count c) (instant p c) ++ paired (p + 2) cs bs

-- a record of runs is its pairs
pub in_pairs : (p n : ℕ) (bs : List ℕ) → n * 2 ≤ length bs → paired p (first_chunks 2 n bs) (drop (n * 2) bs) ≡ runs p bs
in_pairs p zero bs h = refl
in_pairs p (suc n) [] h = absurd (omega arith)
in_pairs p (suc n) (b ∷ []) h = absurd (omega arith)
in_pairs p (suc n) (c ∷ m ∷ bs) h =
    let twice : suc n * 2 ≡ suc (suc (n * 2)) = omega arith in
    ap (λ q. replicate (run_length m) (instant p (c ∷ m ∷ [])) ++ paired (p + 2) (first_chunks 2 n bs) (drop q (c ∷ m ∷ bs))) twice
    ∙ ap (λ xs. replicate (run_length m) (instant p (c ∷ m ∷ [])) ++ xs) (in_pairs (p + 2) n bs (omega arith))

-- from pair k on
abbrev pub rest : List (List ℕ) → List ℕ → ℕ → List Instant
rest cs bs k = paired (2 * k) (drop k cs) bs

-- which of some copies has an index
nth_in : (n : ℕ) (x : Instant) (ys : List Instant) (k : ℕ) → k < n → slice_get (replicate n x ++ ys) k ≡ Some x
nth_in zero x ys k h = absurd (omega arith)
nth_in (suc n) x ys zero h = refl
nth_in (suc n) x ys (suc k) h = nth_in n x ys k (omega arith)

-- past the copies comes what follows them
nth_past : (n : ℕ) (x : Instant) (ys : List Instant) (k j : ℕ) → j + n ≡ k → slice_get (replicate n x ++ ys) k ≡ slice_get ys j
nth_past zero x ys k j e = let s : k ≡ j = omega arith in ap (slice_get ys) s
nth_past (suc n) x ys zero j e = absurd (omega arith)
nth_past (suc n) x ys (suc k) j e = nth_past n x ys k j (omega arith)

-- no byte and a lone one
no_bytes : (p : ℕ) (bs : List ℕ) → length bs ≡ 0 → runs p bs ≡ []
no_bytes p [] h = refl
no_bytes p (b ∷ bs) h = absurd (omega arith)

one_byte : (p : ℕ) (bs : List ℕ) → length bs ≡ 1 → runs p bs ≡ lone p ∷ []
one_byte p [] h = absurd (omega arith)
one_byte p (b ∷ []) h = refl
one_byte p (b ∷ c ∷ bs) h = absurd (omega arith)

-- of a rest that is not nothing there is one byte
pub lone_there : (n m : ℕ) → m ≡ n % 2 → eqb m 0 ≡ false → m ≡ 1
lone_there n m e h = omega (arith, e, eqb-false m 0 h)

-- nothing stands past a lone byte
past_one : (p : ℕ) (bs : List ℕ) (i : ℕ) → length bs ≤ 1 → 0 < i → slice_get (runs p bs) i ≡ None
past_one p [] i h l = refl
past_one p (b ∷ []) zero h l = absurd (omega arith)
past_one p (b ∷ []) (suc i) h l = refl
past_one p (b ∷ c ∷ bs) i h l = absurd (omega arith)

-- the whole
pub from_first : (cs : List (List ℕ)) (lo : List ℕ) (n : ℕ) (bs : List ℕ) → cs ≡ first_chunks 2 n bs → lo ≡ drop (n * 2) bs → n * 2 ≤ length bs → rest cs lo 0 ≡ runs 0 bs
from_first cs lo n bs e f h = ap (λ x. paired 0 x lo) e ∙ ap (paired 0 (first_chunks 2 n bs)) f ∙ in_pairs 0 n bs h

module _ (cs : List (List ℕ)) (lo : List ℕ) (k : ℕ) where
  -- one pair on
  one_pair : k < length cs → rest cs lo k ≡ replicate (count (get_or cs k [])) (instant (2 * k) (get_or cs k [])) ++ rest cs lo (k + 1)
  one_pair h =
      let place : 2 * k + 2 ≡ 2 * (k + 1) = omega arith in
      ap (λ ds. paired (2 * k) ds lo) (drop_more cs k [] h)
      ∙ ap (λ p. replicate (count (get_or cs k [])) (instant (2 * k) (get_or cs k [])) ++ paired p (drop (k + 1) cs) lo) place

  -- past the last pair
  past_pairs : k ≡ length cs → rest cs lo k ≡ runs (2 * k) lo
  past_pairs e = ap (λ ds. paired (2 * k) ds lo) (drop_all k cs (omega arith))

  -- how many there are
  pub length_pair : k < length cs → length (rest cs lo k) ≡ count (get_or cs k []) + length (rest cs lo (k + 1))
  length_pair h =
      ap length (one_pair h) ∙ length-append (replicate (count (get_or cs k [])) (instant (2 * k) (get_or cs k []))) (rest cs lo (k + 1))
      ∙ ap (λ x. x + length (rest cs lo (k + 1))) (length-replicate (count (get_or cs k [])) (instant (2 * k) (get_or cs k [])))

  -- an index within the pair
  pub nth_here : (i : ℕ) → k < length cs → i < count (get_or cs k []) → slice_get (rest cs lo k) i ≡ Some (instant (2 * k) (get_or cs k []))
  nth_here i h l = ap (λ xs. slice_get xs i) (one_pair h) ∙ nth_in (count (get_or cs k [])) (instant (2 * k) (get_or cs k [])) (rest cs lo (k + 1)) i l

  -- an index past the pair
  pub nth_on : (i j : ℕ) → k < length cs → j + count (get_or cs k []) ≡ i → slice_get (rest cs lo k) i ≡ slice_get (rest cs lo (k + 1)) j
  nth_on i j h e = ap (λ xs. slice_get xs i) (one_pair h) ∙ nth_past (count (get_or cs k [])) (instant (2 * k) (get_or cs k [])) (rest cs lo (k + 1)) i j e

  -- nothing is left where no byte is
  pub none_left : k ≡ length cs → length lo ≡ 0 → rest cs lo k ≡ []
  none_left e h = past_pairs e ∙ no_bytes (2 * k) lo h

  -- a lone byte is left
  pub one_left : k ≡ length cs → length lo ≡ 1 → rest cs lo k ≡ lone (2 * k) ∷ []
  one_left e h = past_pairs e ∙ one_byte (2 * k) lo h

  -- past a lone byte nothing is left
  pub none_past : (i : ℕ) → k ≡ length cs → length lo ≤ 1 → 0 < i → slice_get (rest cs lo k) i ≡ None
  none_past i e h l = ap (λ xs. slice_get xs i) (past_pairs e) ∙ past_one (2 * k) lo i h l

-- what an index that is found says of the list
place_found : (xs : List Instant) (k : ℕ) (x : Instant) → slice_get xs k ≡ Some x → (k < length xs) × (place_at xs k ≡ x.place)
place_found [] k x e = let z : ◌≡◌ {A = ℕ} 0 1 = cc in absurd (omega arith)
place_found (y ∷ xs) zero x e = let s : y ≡ x = cc in (omega arith, ap (λ v. v.place) s)
place_found (y ∷ xs) (suc k) x e = let r = place_found xs k x e in (omega (arith, r.0), r.1)

-- where instant 1,025 is found, that is the extent
pub found_long : (xs : List Instant) (p : ℕ) (x : Instant) → slice_get xs 1024 ≡ Some x → x.place ≡ p → Err p ≡ extent_of xs
found_long xs p x e h = let f = place_found xs 1024 x e in extent_long xs p f.0 (f.1 ∙ h)

-- what is shown at an index
pub shown_at : (xs : List Instant) (k : ℕ) (x : Instant) → slice_get xs k ≡ Some x → Some x.reading ≡ slice_get (map (λ x. x.reading) xs) k
shown_at xs k x e = sym (slice_get-map (λ (x : Instant). x.reading) xs k ∙ ap (option_map (λ (x : Instant). x.reading)) e)

-- nothing is shown where nothing is
pub none_at : (xs : List Instant) (k : ℕ) → slice_get xs k ≡ None → None ≡ slice_get (map (λ x. x.reading) xs) k
none_at xs k e = sym (slice_get-map (λ (x : Instant). x.reading) xs k ∙ ap (option_map (λ (x : Instant). x.reading)) e)
