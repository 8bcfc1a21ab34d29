-- Symbols that a table sends on. Assumes nothing.
use Rattle.std.proofs.Common.{◌≡◌, ℕ, zero, suc, ◌+◌, ◌<◌, ◌≤◌, Bool, true, false, ◌&&◌, ◌||◌, eqb, ltb, ◌⊎◌, List, get_or, sym, refl, ap, ◌∙◌, inl, inr, ⊎_elim, add-one, arith}
use Rattle.std.proofs.lemmas.Bool.{and_parts, ltb-true, eqb-true, eq-eqb, cases_lt}
use Rattle.trace.specs.Symbols.{has, set_where, bit_set}
use Rattle.trace.specs.declared.symbols.SymbolSet.{SymbolSet}
use Rattle.trace.proofs.Bits.{where_cong, has_where, of_bits}
use Rattle.layers.specs.Renamings.{sent_to, image_of, Images}

-- the sides of an or change places
or_swap : (a b : Bool) → (a || b) ≡ (b || a)
or_swap true true = refl
or_swap true false = refl
or_swap false true = refl
or_swap false false = refl

-- one symbol more is sent on
pub sent_more : (table : List ℕ) (set out : SymbolSet) (s to : ℕ) → out ≡ set_where (λ t. sent_to table set t s) → has set s ≡ true → to ≡ get_or table s 64 → set_where (λ t. has out t || eqb to t) ≡ set_where (λ t. sent_to table set t (s + 1))
sent_more table set out s to e h r =
    let step : (t : ℕ) → t < 64 → (has out t || eqb to t) ≡ sent_to table set t (suc s) =
    λ t l. ap (λ o. has o t || eqb to t) e ∙ ap (λ b. b || eqb to t) (has_where (λ u. sent_to table set u s) t l) ∙ or_swap (sent_to table set t s) (eqb to t) ∙ ap (λ x. eqb x t || sent_to table set t s) r ∙ ap (λ b. (b && eqb (get_or table s 64) t) || sent_to table set t s) (sym h) in
    ap of_bits (where_cong (λ t. has out t || eqb to t) (λ t. sent_to table set t (suc s)) 64 step) ∙ ap (λ n. set_where (λ t. sent_to table set t n)) (sym (add-one s))

-- a symbol that is not in the set sends nothing on
pub sent_same : (table : List ℕ) (set : SymbolSet) (s : ℕ) → has set s ≡ false → set_where (λ t. sent_to table set t s) ≡ set_where (λ t. sent_to table set t (s + 1))
sent_same table set s h =
    ap of_bits (where_cong (λ t. sent_to table set t s) (λ t. sent_to table set t (suc s)) 64 (λ t l. ap (λ b. (b && eqb (get_or table s 64) t) || sent_to table set t s) (sym h)))
    ∙ ap (λ n. set_where (λ t. sent_to table set t n)) (sym (add-one s))

-- one side of a true or is true
or_parts : (a b : Bool) → (a || b) ≡ true → (a ≡ true) ⊎ (b ≡ true)
or_parts true b e = inl refl
or_parts false b e = inr e

-- an or is true by its right side
or_right : (a b : Bool) → b ≡ true → (a || b) ≡ true
or_right true b e = refl
or_right false b e = e

-- an or is true by its left side
or_left : (a b : Bool) → a ≡ true → (a || b) ≡ true
or_left a b e = ap (λ x. x || b) e

-- an and is true by both sides
and_both : (a b : Bool) → a ≡ true → b ≡ true → (a && b) ≡ true
and_both a b e f = ap (λ x. x && b) e ∙ f

-- some symbol of the set is sent to t
abbrev Sent : List ℕ → SymbolSet → ℕ → Type 0
Sent table set t = (s : ℕ) × (has set s ≡ true) × (image_of table s ≡ t)

-- where the test passes, some symbol is sent
sent_some : (table : List ℕ) (set : SymbolSet) (t n : ℕ) → sent_to table set t n ≡ true → Sent table set t
sent_some table set t zero e = let z : ◌≡◌ {A = Bool} false true = e in let w : ◌≡◌ {A = ℕ} 0 1 = cc in absurd (omega arith)
sent_some table set t (suc n) e =
    ⊎_elim
    (λ (h : (has set n && eqb (image_of table n) t) ≡ true). let p = and_parts (has set n) (eqb (image_of table n) t) h in (n, p.0, eqb-true (image_of table n) t p.1))
    (λ (h : sent_to table set t n ≡ true). sent_some table set t n h)
    (or_parts (has set n && eqb (image_of table n) t) (sent_to table set t n) e)

-- where a symbol is sent, the test passes
sent_at : (table : List ℕ) (set : SymbolSet) (t n s : ℕ) → s < n → has set s ≡ true → image_of table s ≡ t → sent_to table set t n ≡ true
sent_at table set t zero s l h e = absurd (omega arith)
sent_at table set t (suc n) s l h e =
    ⊎_elim
    (λ (k : s < n). or_right (has set n && eqb (image_of table n) t) (sent_to table set t n) (sent_at table set t n s k h e))
    (λ (k : n ≤ s).
    let same : s ≡ n = omega arith in
    or_left (has set n && eqb (image_of table n) t) (sent_to table set t n)
    (and_both (has set n) (eqb (image_of table n) t) (ap (has set) (sym same) ∙ h) (eq-eqb (image_of table n) t (ap (image_of table) (sym same) ∙ e))))
    (cases_lt s n)

-- a number that is in a set is a symbol
symbol_in : (set : SymbolSet) (s : ℕ) → has set s ≡ true → s < 64
symbol_in set s h = ltb-true s 64 (and_parts (ltb s 64) (bit_set set.bits s) h).0

-- the law of images
pub images_hold : Images
images_hold table set t l =
    let members = has_where (λ u. sent_to table set u 64) t l in
    (λ h. sent_some table set t 64 (sym members ∙ h), λ w. members ∙ sent_at table set t 64 w.0 (symbol_in set w.0 w.1) w.1 w.2)
