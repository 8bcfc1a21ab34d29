-- Lists that are made for a comparison.
use Rattle.std.specs.Prelude.{◌≡◌, ℕ, ◌/◌, ◌%◌, ◌<◌, List, [], ◌∷◌, length, slice_index}

-- the list has n elements, and each of them has the property P
abbrev pub Each : (ℕ → Type 0) → ℕ → List ℕ → Type 0
Each P n xs = (length xs ≡ n) × ((k : ℕ) → k < n → P (slice_index xs k))

-- the record of snapshots of a trace: two bytes for each instant, the higher first
abbrev pub snapshots : List ℕ → List ℕ
snapshots [] = []
snapshots (x ∷ xs) = x / 256 % 256 ∷ x % 256 ∷ snapshots xs
