-- Bits of numbers as symbols of sets. Assumes nothing.
use Rattle.std.proofs.Common.{◌≡◌, ℕ, zero, suc, ◌+◌, ◌-◌, ◌*◌, ◌/◌, ◌%◌, ◌^◌, ◌<◌, ◌≤◌, Bool, true, false, cond, ◌&&◌, ◌||◌, eqb, ltb, ◌⊎◌, sym, refl, ap, ◌∙◌, inl, inr, ⊎_elim, mod-eq_of_lt, mul_assoc, pow-suc, arith, pow_pos, pow-add}
use native.Mathlib.Nat.{mul-add-mod_self_right, div_self, div-eq_of_lt}
use lib.Bits.{bit_and, bit_or, and_mask, or_shr, or_mod, or_lt}
use lib.Pow.{pow-lt, field, high, mod-pow-add}
use Rattle.std.proofs.lemmas.Nat.{one_shl}
use Rattle.std.proofs.lemmas.Bool.{lt-ltb, le-ltb, eq-eqb, ne_eqb, cases_order, cases_lt}
use Rattle.trace.specs.Symbols.{has, bits_where, set_where}
use Rattle.trace.specs.declared.symbols.SymbolSet.{SymbolSet}

-- a number as the set that its bits tell
abbrev pub of_bits : ℕ → SymbolSet
of_bits n = record { bits = n }

-- the bit of value 2 ^ t
abbrev bit : ℕ → ℕ → ℕ
bit a t = a / 2 ^ t % 2

-- the test that the code makes is membership
pub low_bit : (a s : ℕ) → s < 64 → eqb (bit_and a 1) 1 ≡ (ltb s 64 && eqb (a % 2) 1)
low_bit a s h = ap (λ x. eqb x 1) (and_mask a 1) ∙ ap (λ b. b && eqb (a % 2) 1) (sym (lt-ltb s 64 h))

-- what stands above the bit t does not touch it
bit_below : (b n low t : ℕ) → t < n → bit (b * 2 ^ n + low) t ≡ bit low t
bit_below b n low t h =
    let k : ℕ = n - (1 + t) in
    let parts : 2 ^ n ≡ 2 ^ k * 2 ^ (1 + t) = let e : n ≡ k + (1 + t) = omega arith in ap (λ x. 2 ^ x) e ∙ pow-add 2 k (1 + t) in
    let whole : b * 2 ^ n ≡ (b * 2 ^ k) * 2 ^ (1 + t) = ap (λ x. b * x) parts ∙ sym (mul_assoc b (2 ^ k) (2 ^ (1 + t))) in
    let same : (b * 2 ^ n + low) % 2 ^ (1 + t) ≡ low % 2 ^ (1 + t) = ap (λ x. (x + low) % 2 ^ (1 + t)) whole ∙ mul-add-mod_self_right (b * 2 ^ k) (2 ^ (1 + t)) low in
    sym (field (b * 2 ^ n + low) 1 t) ∙ ap (λ x. x / 2 ^ t) same ∙ field low 1 t

-- the bit of a power of two at its own place
bit_same : (s t : ℕ) → s ≡ t → bit (2 ^ s) t ≡ 1
bit_same s t e = ap (λ x. bit (2 ^ x) t) e ∙ ap (λ x. x % 2) (div_self (pow_pos t))

-- its bits above
bit_above : (s t : ℕ) → s < t → bit (2 ^ s) t ≡ 0
bit_above s t h = ap (λ x. x % 2) (div-eq_of_lt (pow-lt h))

-- its bits below
bit_under : (s t : ℕ) → t < s → bit (2 ^ s) t ≡ 0
bit_under s t h =
    let e : 2 ^ s ≡ 1 * 2 ^ s + 0 = omega arith in
    ap (λ x. bit x t) e ∙ bit_below 1 s 0 t h ∙ ap (λ x. x % 2) (div-eq_of_lt (pow_pos t))

-- the bits of a power of two
bit_power : (s t : ℕ) → eqb (bit (2 ^ s) t) 1 ≡ eqb s t
bit_power s t =
    ⊎_elim
    (λ e. ap (λ x. eqb x 1) (bit_same s t e) ∙ sym (eq-eqb s t e))
    (⊎_elim
    (λ h. ap (λ x. eqb x 1) (bit_above s t h) ∙ sym (ne_eqb s t (λ e. omega arith)))
    (λ h. ap (λ x. eqb x 1) (bit_under s t h) ∙ sym (ne_eqb s t (λ e. omega arith))))
    (cases_order s t)

-- a number below 2
small : (x : ℕ) → x < 2 → (x ≡ 0) ⊎ (x ≡ 1)
small zero h = inl refl
small (suc zero) h = inr refl
small (suc (suc x)) h = absurd (omega arith)

-- the union of two bits
or_small : (x y : ℕ) → (x ≡ 0) ⊎ (x ≡ 1) → (y ≡ 0) ⊎ (y ≡ 1) → eqb (bit_or x y) 1 ≡ (eqb x 1 || eqb y 1)
or_small x y (inl e) (inl f) = rw (e, f) refl
or_small x y (inl e) (inr f) = rw (e, f) refl
or_small x y (inr e) (inl f) = rw (e, f) refl
or_small x y (inr e) (inr f) = rw (e, f) refl

-- the bits of a union
bit_of_or : (a b t : ℕ) → eqb (bit (bit_or a b) t) 1 ≡ (eqb (bit a t) 1 || eqb (bit b t) 1)
bit_of_or a b t =
    let e : bit (bit_or a b) t ≡ bit_or (bit a t) (bit b t) = ap (λ x. x % 2) (or_shr a b t) ∙ or_mod (a / 2 ^ t) (b / 2 ^ t) 1 in
    let lt : (x : ℕ) → x % 2 < 2 = λ x. omega arith in
    ap (λ x. eqb x 1) e ∙ or_small (bit a t) (bit b t) (small _ (lt (a / 2 ^ t))) (small _ (lt (b / 2 ^ t)))

-- equal tests make equal numbers
pub where_cong : (p q : ℕ → Bool) (n : ℕ) → ((t : ℕ) → t < n → p t ≡ q t) → bits_where p n ≡ bits_where q n
where_cong p q zero h = refl
where_cong p q (suc n) h =
    let here : p n ≡ q n = h n (omega arith) in
    let rest : bits_where p n ≡ bits_where q n = where_cong p q n (λ t k. h t (omega arith)) in
    ap (λ b. cond b (2 ^ n) 0 + bits_where p n) here ∙ ap (λ x. cond (q n) (2 ^ n) 0 + x) rest

-- a bit times its value
cond_bit : (x m : ℕ) → (x ≡ 0) ⊎ (x ≡ 1) → cond (eqb x 1) m 0 ≡ x * m
cond_bit x m (inl e) = rw e (omega arith)
cond_bit x m (inr e) = rw e (omega arith)

-- a number is made of its bits
where_bits : (a n : ℕ) → bits_where (λ t. eqb (bit a t) 1) n ≡ a % 2 ^ n
where_bits a zero = omega arith
where_bits a (suc n) =
    let lt : bit a n < 2 = omega arith in
    let top : cond (eqb (bit a n) 1) (2 ^ n) 0 ≡ bit a n * 2 ^ n = cond_bit (bit a n) (2 ^ n) (small _ lt) in
    let one : 1 + n ≡ suc n = omega arith in
    let all : a % 2 ^ (1 + n) ≡ bit a n * 2 ^ n + a % 2 ^ n = mod-pow-add a 1 n in
    ap (λ x. x + bits_where (λ t. eqb (bit a t) 1) n) top ∙ ap (λ x. bit a n * 2 ^ n + x) (where_bits a n) ∙ sym all ∙ ap (λ x. a % 2 ^ x) one

-- a set is the set of the symbols that pass a test, if its bits are
pub set_from_bits : (a : ℕ) (p : ℕ → Bool) → a < 2 ^ 64 → ((t : ℕ) → t < 64 → eqb (bit a t) 1 ≡ p t) → a ≡ bits_where p 64
set_from_bits a p h e = sym (mod-eq_of_lt h) ∙ sym (where_bits a 64) ∙ where_cong (λ t. eqb (bit a t) 1) p 64 e

-- membership of a symbol is its bit
pub has_bit : (set : SymbolSet) (t : ℕ) → t < 64 → has set t ≡ eqb (bit set.bits t) 1
has_bit set t h = ap (λ b. b && eqb (bit set.bits t) 1) (lt-ltb t 64 h)

-- a set with one symbol more
pub set_with : (set : SymbolSet) (s : ℕ) → s < 64 → set.bits < 2 ^ 64 → bit_or set.bits ((1 * 2 ^ s) % 2 ^ 64) ≡ bits_where (λ t. has set t || eqb s t) 64
set_with set s h k =
    let shift : (1 * 2 ^ s) % 2 ^ 64 ≡ 2 ^ s = one_shl s 64 h in
    ap (bit_or set.bits) shift ∙ set_from_bits (bit_or set.bits (2 ^ s)) (λ t. has set t || eqb s t) (or_lt 64 set.bits (2 ^ s) k (pow-lt h))
    (λ t l. bit_of_or set.bits (2 ^ s) t ∙ ap (λ b. eqb (bit set.bits t) 1 || b) (bit_power s t) ∙ ap (λ b. b || eqb s t) (sym (has_bit set t l)))

-- false adds nothing
or_false : (b : Bool) → (b || false) ≡ b
or_false true = refl
or_false false = refl

-- what is no symbol adds nothing
pub set_without : (set : SymbolSet) (s : ℕ) → 64 ≤ s → set.bits < 2 ^ 64 → set.bits ≡ bits_where (λ t. has set t || eqb s t) 64
set_without set s h k =
    set_from_bits set.bits (λ t. has set t || eqb s t) k
    (λ t l. sym (has_bit set t l) ∙ sym (or_false (has set t)) ∙ ap (λ b. has set t || b) (sym (ne_eqb s t (λ e. omega arith))))

-- the number is below the next power
where_lt : (p : ℕ → Bool) (n : ℕ) → bits_where p n < 2 ^ n
where_lt p zero = omega arith
where_lt p (suc n) =
    let top : (b : Bool) → cond b (2 ^ n) 0 ≤ 2 ^ n = λ b. elim b as (λ v. cond v (2 ^ n) 0 ≤ 2 ^ n) [ true ↦ omega arith | false ↦ omega arith ] in
    omega (arith, top (p n), where_lt p n, pow-suc 2 n)

-- the top bit as a factor
top_bit : (b : Bool) (m : ℕ) → cond b m 0 ≡ cond b 1 0 * m
top_bit true m = omega arith
top_bit false m = omega arith

-- a bit that is told by a test
one_bit : (b : Bool) → eqb (cond b 1 0 % 2) 1 ≡ b
one_bit true = refl
one_bit false = refl

-- each bit of the number is what the test says
bit_where : (p : ℕ → Bool) (n t : ℕ) → t < n → eqb (bit (bits_where p n) t) 1 ≡ p t
bit_where p zero t h = absurd (omega arith)
bit_where p (suc n) t h =
    let low : ℕ = bits_where p n in
    let b : ℕ = cond (p n) 1 0 in
    let shape : bits_where p (suc n) ≡ b * 2 ^ n + low = ap (λ x. x + low) (top_bit (p n) (2 ^ n)) in
    let is : eqb (bit (bits_where p (suc n)) t) 1 ≡ eqb (bit (b * 2 ^ n + low) t) 1 = ap (λ x. eqb (bit x t) 1) shape in
    ⊎_elim
    (λ (e : t ≡ n). is ∙ ap (λ x. eqb (bit (b * 2 ^ n + low) x) 1) e ∙ ap (λ x. eqb (x % 2) 1) (high b n (where_lt p n)) ∙ one_bit (p n) ∙ ap p (sym e))
    (⊎_elim
    (λ (l : t < n). is ∙ ap (λ x. eqb x 1) (bit_below b n low t l) ∙ bit_where p n t l)
    (λ (l : n < t). absurd (omega arith)))
    (cases_order t n)

-- a set that is made by a test holds what passes it
pub has_where : (p : ℕ → Bool) (t : ℕ) → t < 64 → has (set_where p) t ≡ p t
has_where p t h = has_bit (set_where p) t h ∙ bit_where p 64 t h

-- membership in a set with one symbol more
pub joined_members : (set out : SymbolSet) (s : ℕ) → out ≡ set_where (λ t. has set t || eqb s t) → (t : ℕ) → has out t ≡ (ltb t 64 && (has set t || eqb s t))
joined_members set out s e t =
    ⊎_elim
    (λ (l : t < 64). ap (λ o. has o t) e ∙ has_where (λ u. has set u || eqb s u) t l ∙ ap (λ b. b && (has set t || eqb s t)) (sym (lt-ltb t 64 l)))
    (λ (l : 64 ≤ t). ap (λ b. b && eqb (bit out.bits t) 1) (le-ltb t 64 l) ∙ ap (λ b. b && (has set t || eqb s t)) (sym (le-ltb t 64 l)))
    (cases_lt t 64)
