-- Tables that rename symbols. Assumes nothing.
use Rattle.std.specs.Prelude.{◌≡◌, ℕ, zero, suc, ◌<◌, Bool, true, false, cond, ◌&&◌, ◌||◌, ◌↔◌, List, [], Some, None, Option, ◌==◌, nat_le, slice_index_or}
use Rattle.std.specs.List.{range_with_len}
use Rattle.trace.specs.Symbols.{has, set_where}
use Rattle.trace.specs.declared.symbols.SymbolSet.{SymbolSet}
use Rattle.layers.specs.Refusals.{Refused}

-- the table that sends each symbol to itself
abbrev pub kept : List ℕ
kept = range_with_len 0 64

-- what the table sends s to; 64 is no symbol, so a symbol that is sent there is dropped
abbrev pub image_of : List ℕ → ℕ → ℕ
image_of table s = slice_index_or table s 64

-- some symbol of the set, below n, is sent to t
abbrev pub sent_to : List ℕ → SymbolSet → ℕ → ℕ → Bool
sent_to table set t zero = false
sent_to table set t (suc n) = (has set n && image_of table n == t) || sent_to table set t n

-- the symbols that those of the set are sent to
abbrev pub images : List ℕ → SymbolSet → SymbolSet
images table set = set_where (λ t. sent_to table set t 64)

-- What that means: a symbol is in the set of images exactly when some symbol of the set is sent to it.
abbrev pub Images : Type 0
Images = (table : List ℕ) (set : SymbolSet) (t : ℕ) → t < 64 → (has (images table set) t ≡ true) ↔ ((s : ℕ) × (has set s ≡ true) × (image_of table s ≡ t))

-- an entry may be set: the symbols are 0 to 63, and 64 drops one
abbrev pub allowed : ℕ → ℕ → Bool
allowed from to = nat_le from 63 && nat_le to 64

-- what setting an entry tells: refusal 17, bad renaming, where it may not be set
abbrev pub send_answer : ℕ → ℕ → Option Refused
send_answer from to = cond (allowed from to) None (Some (record { number = 17; values = [] }))
