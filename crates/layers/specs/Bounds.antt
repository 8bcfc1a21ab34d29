-- No layer shows more than 1,024 instants. Assumes nothing.
use Rattle.std.specs.Prelude.{◌≡◌, ℕ, ◌+◌, ◌-◌, ◌≤◌, List, map, reverse, length, take, drop}
use Rattle.std.proofs.Common.{◌∙◌, arith}
use Rattle.std.proofs.lemmas.List.{length-map, length-reverse, length-take, length-drop}
use Rattle.std.proofs.lemmas.Bool.{cond_both}
use Rattle.trace.specs.Readings.{Reading, raised}
use Rattle.layers.specs.Layers.{reversed, renamed, segment, fitting}

-- reversing keeps the length
pub length_reversed : (rs : List Reading) → length (reversed rs) ≡ length rs
length_reversed rs = length-map (reverse rs) raised ∙ length-reverse rs

pub reversed_few : (rs : List Reading) → length rs ≤ 1024 → length (reversed rs) ≤ 1024
reversed_few rs h = omega (arith, length_reversed rs)

pub renamed_few : (table : List ℕ) (rs : List Reading) → length rs ≤ 1024 → length (map (renamed table) rs) ≤ 1024
renamed_few table rs h = omega (arith, length-map rs (renamed table))

pub segment_few : (a b : ℕ) (rs : List Reading) → length rs ≤ 1024 → length (segment a b rs) ≤ 1024
segment_few a b rs h =
    cond_both (fitting a b rs) _ _ (λ xs. length xs ≤ 1024)
    (λ e. omega (arith, length-map (take (b - a + 1) (drop (a - 1) rs)) raised, length-take (b - a + 1) (drop (a - 1) rs), length-drop (a - 1) rs))
    (λ e. omega arith)
