-- The readings that a layer shows, by their instant. Assumes nothing.
use Rattle.std.proofs.Common.{◌≡◌, ℕ, ◌+◌, ◌-◌, ◌<◌, ◌≤◌, true, false, ◌&&◌, leb, List, [], ◌∷◌, map, reverse, length, get_or, take, drop, Ok, Err, sym, refl, ap, ◌∙◌, arith}
use Rattle.std.proofs.lemmas.List.{get_or-map, get_or-reverse, length-reverse, length-map, length-take, length-drop, get_or-take, get_or-drop}
use Rattle.std.proofs.lemmas.Bool.{cond-true, cond-false, and_parts, leb-true}
use Rattle.trace.specs.Readings.{Reading, reading_at, outside, raised, fault, cause_bad_segment}
use Rattle.trace.specs.declared.reading.Event.{Event}
use Rattle.trace.specs.declared.reading.Fault.{Fault}
use Rattle.layers.specs.Renamings.{images}
use Rattle.layers.specs.Layers.{reversed, renamed, segment, fitting, ShowsFromTheEnd, ShowsAPart}
use Rattle.trace.proofs.Answers.{answer_in}

-- an instant of the reversed trace
pub answer_reversed : (rs : List Reading) (i n : ℕ) → n ≡ length rs → 0 < i → i ≤ n → raised (reading_at rs (n - i + 1)) ≡ reading_at (reversed rs) i
answer_reversed rs i n e h k =
    let d : Reading = outside (n - i + 1) in
    let below : reading_at rs (n - i + 1) ≡ get_or rs (n - i + 1 - 1) d = answer_in rs (n - i + 1) (omega arith) in
    let j : n - i + 1 - 1 ≡ length rs - 1 - (i - 1) = omega arith in
    let back : get_or (reverse rs) (i - 1) d ≡ get_or rs (length rs - 1 - (i - 1)) d = get_or-reverse rs (i - 1) d (omega arith) in
    let above : get_or (reversed rs) (i - 1) (outside i) ≡ raised (get_or (reverse rs) (i - 1) d) = get_or-map raised (reverse rs) (i - 1) d (outside i) (omega (arith, length-reverse rs)) in
    ap raised (below ∙ ap (λ x. get_or rs x d) j ∙ sym back) ∙ sym above ∙ sym (answer_in (reversed rs) i h)

-- what the test for a segment tells
pub fitting_tells : (a b : ℕ) (rs : List Reading) → fitting a b rs ≡ true → (1 ≤ a) × (a ≤ b) × (b ≤ length rs)
fitting_tells a b rs e =
    let p = and_parts (leb 1 a) (leb a b && leb b (length rs)) e in
    let q = and_parts (leb a b) (leb b (length rs)) p.1 in
    (leb-true 1 a p.0, leb-true a b q.0, leb-true b (length rs) q.1)

-- the instants a to b
abbrev cut : ℕ → ℕ → List Reading → List Reading
cut a b rs = take (b - a + 1) (drop (a - 1) rs)

-- how many they are
length_cut : (a b : ℕ) (rs : List Reading) → fitting a b rs ≡ true → length (cut a b rs) ≡ b - a + 1
length_cut a b rs e = let f = fitting_tells a b rs e in omega (arith, f.0, f.1, f.2, length-take (b - a + 1) (drop (a - 1) rs), length-drop (a - 1) rs)

-- a segment that is all there
segment_in : (a b : ℕ) (rs : List Reading) → fitting a b rs ≡ true → segment a b rs ≡ map raised (cut a b rs)
segment_in a b rs e = cond-true (fitting a b rs) _ _ e

-- its length
pub length_segment : (a b : ℕ) (rs : List Reading) → fitting a b rs ≡ true → length (segment a b rs) ≡ b - a + 1
length_segment a b rs e = ap length (segment_in a b rs e) ∙ length-map (cut a b rs) raised ∙ length_cut a b rs e

-- a segment that is not
pub segment_out : (a b : ℕ) (rs : List Reading) → fitting a b rs ≡ false → segment a b rs ≡ fault cause_bad_segment a ∷ []
segment_out a b rs e = cond-false (fitting a b rs) _ _ e

-- an instant of a segment
pub answer_segment : (rs : List Reading) (a b i : ℕ) → fitting a b rs ≡ true → 0 < i → i ≤ b - a + 1 → raised (reading_at rs (a + (i - 1))) ≡ reading_at (segment a b rs) i
answer_segment rs a b i e h k =
    let f = fitting_tells a b rs e in
    let f0 : 1 ≤ a = f.0 in
    let j : ℕ = a + (i - 1) in
    let d : Reading = outside j in
    let below : reading_at rs j ≡ get_or rs (j - 1) d = answer_in rs j (omega arith) in
    let n : j - 1 ≡ (a - 1) + (i - 1) = omega arith in
    let part : get_or (cut a b rs) (i - 1) d ≡ get_or (drop (a - 1) rs) (i - 1) d = get_or-take (b - a + 1) (drop (a - 1) rs) (i - 1) d (omega arith) in
    let whole : get_or (drop (a - 1) rs) (i - 1) d ≡ get_or rs ((a - 1) + (i - 1)) d = get_or-drop (a - 1) rs (i - 1) d in
    let above : get_or (map raised (cut a b rs)) (i - 1) (outside i) ≡ raised (get_or (cut a b rs) (i - 1) d) = get_or-map raised (cut a b rs) (i - 1) d (outside i) (omega (arith, length_cut a b rs e)) in
    ap raised (below ∙ ap (λ x. get_or rs x d) n ∙ sym whole ∙ sym part) ∙ sym above ∙ sym (answer_in (map raised (cut a b rs)) i h) ∙ ap (λ xs. reading_at xs i) (sym (segment_in a b rs e))

-- an instant of the renamed trace
pub answer_renamed : (table : List ℕ) (rs : List Reading) (i : ℕ) → 0 < i → i ≤ length rs → renamed table (reading_at rs i) ≡ reading_at (map (renamed table) rs) i
answer_renamed table rs i h k =
    let below : reading_at rs i ≡ get_or rs (i - 1) (outside i) = answer_in rs i h in
    let above : get_or (map (renamed table) rs) (i - 1) (outside i) ≡ renamed table (get_or rs (i - 1) (outside i)) = get_or-map (renamed table) rs (i - 1) (outside i) (outside i) (omega arith) in
    ap (renamed table) below ∙ sym above ∙ sym (answer_in (map (renamed table) rs) i h)

-- what reversing means
pub shows_from_the_end : ShowsFromTheEnd
shows_from_the_end rs i h k = sym (answer_reversed rs i (length rs) refl h k)

-- what a segment means
pub shows_a_part : ShowsAPart
shows_a_part rs a b e =
    (length_segment a b rs e, λ i h k. let j : a + i - 1 ≡ a + (i - 1) = omega arith in sym (answer_segment rs a b i e h k) ∙ ap (λ x. raised (reading_at rs x)) (sym j))

-- a renamed event, and a renamed fault, by what one layer more shows of them
pub renamed_event : (table : List ℕ) (r : Reading) (e : Event) → Ok e ≡ raised r → Ok (record { symbols = images table e.symbols }) ≡ renamed table r
renamed_event table (Ok d) e h = let s : e ≡ d = cc in ap (λ x. Ok (record { symbols = images table x.symbols })) s
renamed_event table (Err f) e h = let z : ◌≡◌ {A = ℕ} 0 1 = cc in absurd (omega arith)

pub renamed_fault : (table : List ℕ) (r : Reading) (f : Fault) → Err f ≡ raised r → Err f ≡ renamed table r
renamed_fault table (Ok d) f h = let z : ◌≡◌ {A = ℕ} 0 1 = cc in absurd (omega arith)
renamed_fault table (Err g) f h = h
