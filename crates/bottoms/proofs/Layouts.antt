-- The instants of codes and of snapshots, by their index. Assumes nothing.
use Rattle.std.proofs.Common.{◌≡◌, ℕ, zero, suc, ◌+◌, ◌*◌, ◌/◌, ◌%◌, ◌<◌, ◌≤◌, min, List, [], ◌∷◌, map, length, get_or, Some, None, sym, refl, ap, ◌∙◌, arith}
use Rattle.std.specs.List.{slice_get}
use Rattle.std.specs.Simd.{first_chunks}
use Rattle.trace.specs.Readings.{fault, cause_cut_short}
use Rattle.bottoms.specs.Records.{codes, code_reading, snapshots, snapshot_reading}
use Rattle.bottoms.proofs.Bounded.{place_at}

-- as many codes as bytes
pub length_codes : (p : ℕ) (bs : List ℕ) → length (codes p bs) ≡ length bs
length_codes p [] = refl
length_codes p (c ∷ bs) = ap suc (length_codes (p + 1) bs)

-- a code stands at its index
pub place_codes : (p : ℕ) (bs : List ℕ) (k q : ℕ) → p + k ≡ q → k < length bs → place_at (codes p bs) k ≡ q
place_codes p [] k q e h = absurd (omega arith)
place_codes p (c ∷ bs) zero q e h = omega arith
place_codes p (c ∷ bs) (suc k) q e h = place_codes (p + 1) bs k q (omega arith) (omega arith)

-- as many snapshots as halves of the bytes, rounded up
pub length_snapshots : (p : ℕ) (bs : List ℕ) → (length bs ≤ 2 * length (snapshots p bs)) × (2 * length (snapshots p bs) ≤ length bs + 1)
length_snapshots p [] = (omega arith, omega arith)
length_snapshots p (b ∷ []) = (omega arith, omega arith)
length_snapshots p (h ∷ l ∷ bs) = let r = length_snapshots (p + 2) bs in (omega (arith, r.0), omega (arith, r.1))

-- their number by division
pub halved_snapshots : (p : ℕ) (bs : List ℕ) (n : ℕ) → n ≡ length bs / 2 + min 1 (length bs % 2) → length (snapshots p bs) ≡ n
halved_snapshots p bs n e = let l = length_snapshots p bs in omega (arith, l.0, l.1)

-- a snapshot stands at twice its index
pub place_snapshots : (p : ℕ) (bs : List ℕ) (k q : ℕ) → p + 2 * k ≡ q → k < length (snapshots p bs) → place_at (snapshots p bs) k ≡ q
place_snapshots p [] k q e h = absurd (omega arith)
place_snapshots p (b ∷ []) zero q e h = omega arith
place_snapshots p (b ∷ []) (suc k) q e h = absurd (omega arith)
place_snapshots p (a ∷ b ∷ bs) zero q e h = omega arith
place_snapshots p (a ∷ b ∷ bs) (suc k) q e h = place_snapshots (p + 2) bs k q (omega arith) (omega arith)

-- a snapshot of two bytes
pub shown_pair : (p n : ℕ) (bs : List ℕ) (k : ℕ) (c : List ℕ) → n * 2 ≤ length bs → slice_get (first_chunks 2 n bs) k ≡ Some c → Some (snapshot_reading (get_or c 0 0) (get_or c 1 0)) ≡ slice_get (map (λ x. x.reading) (snapshots p bs)) k
shown_pair p zero bs k c h e = let z : ◌≡◌ {A = ℕ} 0 1 = cc in absurd (omega arith)
shown_pair p (suc n) [] k c h e = absurd (omega arith)
shown_pair p (suc n) (b ∷ []) k c h e = absurd (omega arith)
shown_pair p (suc n) (a ∷ b ∷ bs) zero c h e = let s : (a ∷ b ∷ []) ≡ c = cc in ap (λ x. Some (snapshot_reading (get_or x 0 0) (get_or x 1 0))) (sym s)
shown_pair p (suc n) (a ∷ b ∷ bs) (suc k) c h e = shown_pair (p + 2) n bs k c (omega arith) e

-- the lone byte at the end
pub shown_lone : (p q : ℕ) (bs : List ℕ) (k : ℕ) → p + 2 * k ≡ q → 2 * k + 1 ≡ length bs → Some (fault cause_cut_short q) ≡ slice_get (map (λ x. x.reading) (snapshots p bs)) k
shown_lone p q [] k e h = absurd (omega arith)
shown_lone p q (b ∷ []) zero e h = let z : q ≡ p = omega arith in ap (λ x. Some (fault cause_cut_short x)) z
shown_lone p q (b ∷ []) (suc k) e h = absurd (omega arith)
shown_lone p q (a ∷ b ∷ bs) zero e h = absurd (omega arith)
shown_lone p q (a ∷ b ∷ bs) (suc k) e h = shown_lone (p + 2) q bs k (omega arith) (omega arith)

-- past the last byte nothing is shown
pub shown_none : (p : ℕ) (bs : List ℕ) (k : ℕ) → length bs ≤ 2 * k → None ≡ slice_get (map (λ x. x.reading) (snapshots p bs)) k
shown_none p [] k h = refl
shown_none p (b ∷ []) zero h = absurd (omega arith)
shown_none p (b ∷ []) (suc k) h = refl
shown_none p (a ∷ b ∷ bs) zero h = absurd (omega arith)
shown_none p (a ∷ b ∷ bs) (suc k) h = shown_none (p + 2) bs k (omega arith)

-- a code that is there, and one that is not
pub shown_code : (p q : ℕ) (bs : List ℕ) (k c : ℕ) → p + k ≡ q → slice_get bs k ≡ Some c → Some (code_reading q c) ≡ slice_get (map (λ x. x.reading) (codes p bs)) k
shown_code p q [] k c e h = let z : ◌≡◌ {A = ℕ} 0 1 = cc in absurd (omega arith)
shown_code p q (b ∷ bs) zero c e h =
    let here : q ≡ p = omega arith in
    let same : b ≡ c = cc in
    ap (λ x. Some (code_reading x c)) here ∙ ap (λ x. Some (code_reading p x)) (sym same)
shown_code p q (b ∷ bs) (suc k) c e h = shown_code (p + 1) q bs k c (omega arith) h

pub shown_no_code : (p : ℕ) (bs : List ℕ) (k : ℕ) → slice_get bs k ≡ None → None ≡ slice_get (map (λ x. x.reading) (codes p bs)) k
shown_no_code p [] k h = refl
shown_no_code p (b ∷ bs) zero h = let z : ◌≡◌ {A = ℕ} 0 1 = cc in absurd (omega arith)
shown_no_code p (b ∷ bs) (suc k) h = shown_no_code (p + 1) bs k h
