-- Sets of the symbols 0 to 63. Assumes nothing.
use Rattle.std.specs.Prelude.{◌≡◌, ℕ, zero, suc, ◌+◌, ◌/◌, ◌%◌, ◌^◌, ◌<◌, Bool, cond, ◌&&◌, ◌==◌, nat_eq, nat_lt}
use Rattle.trace.specs.declared.symbols.SymbolSet.{SymbolSet}

-- the bit of value 2 ^ k is set in the number n
abbrev pub bit_set : ℕ → ℕ → Bool
bit_set n k = n / 2 ^ k % 2 == 1

-- membership: s is a symbol, and it is in the set
abbrev pub has : SymbolSet → ℕ → Bool
has set s = nat_lt s 64 && bit_set set.bits s

-- the number whose bits below n are set where the test passes
abbrev pub bits_where : (ℕ → Bool) → ℕ → ℕ
bits_where p zero = 0
bits_where p (suc n) = cond (p n) (2 ^ n) 0 + bits_where p n

-- the set of the symbols that pass a test
abbrev pub set_where : (ℕ → Bool) → SymbolSet
set_where p = record { bits = bits_where p 64 }

-- the set of the one symbol s
abbrev pub only : ℕ → SymbolSet
only s = set_where (λ t. nat_eq s t)

-- The law of such sets: a symbol is in the set of those that pass a test exactly when it passes the test.
abbrev pub Members : Type 0
Members = (p : ℕ → Bool) (s : ℕ) → s < 64 → has (set_where p) s ≡ p s
