-- What a stack of needs can still be followed by, and that reading a byte keeps to it. Assumes nothing.
use Rattle.std.proofs.Common.{◌≡◌, ℕ, zero, suc, ◌+◌, ◌-◌, ◌*◌, Bool, true, cond, eqb, ◌⊎◌, List, [], ◌∷◌, ◌++◌, Some, None, codes, Option, sym, refl, ap, ◌∙◌, subst, inl, inr, ⊎_elim, arith}
use Rattle.std.proofs.lemmas.Bool.{cases_Bool, cond-true, cond-false, eqb-true, eqb-false}
use Rattle.text.specs.declared.term.Leaf.{Leaf}
use Rattle.text.specs.declared.term.Leaf.TheVariants.{True, False, Start, End, Symbol}
use Rattle.text.specs.declared.term.Unary.{Unary}
use Rattle.text.specs.declared.term.Unary.TheVariants.{Not, Next, Yest}
use Rattle.text.specs.declared.term.Binary.{Binary}
use Rattle.text.specs.declared.term.Binary.TheVariants.{And, Or, Until, Since}
use Rattle.text.specs.Trees.{Tree, leaf, one, two, leaf_text, unary_text, binary_text, Small, TreeWithin}
use Rattle.text.specs.Machine.{Need, byte, form, after_s, digit, inner, after_n, joint, bytes, is_digit, on_s, on_open, on_form, on_inner, on_n, on_joint, pair, single, step, Goes, stay, more, skip, enter, before}
use Rattle.text.proofs.Numbers.{digit_range, one_decimal, two_decimal}

-- the bytes x are all that a stack waits for
abbrev pub Fits : List Need → List ℕ → Type 0
Fits [] x = x ≡ []
Fits (byte n ∷ k) x = (y : List ℕ) × (x ≡ n ∷ y) × Fits k y
Fits (form n ∷ k) x = (f : Tree) × (y : List ℕ) × TreeWithin n f × (x ≡ before f y) × Fits k y
Fits (after_s ∷ k) x = (l : Leaf) × (y : List ℕ) × Small l × (115 ∷ x ≡ leaf_text l ++ y) × Fits k y
Fits (digit ∷ k) x = Fits k x ⊎ ((d : ℕ) × (y : List ℕ) × (is_digit d ≡ true) × (x ≡ d ∷ y) × Fits k y)
Fits (inner n ∷ k) x = (f : Tree) × (y : List ℕ) × TreeWithin (suc n) f × (40 ∷ x ≡ before f y) × Fits k y
Fits (after_n n ∷ k) x = (u : Unary) × (f : Tree) × (y : List ℕ) × TreeWithin n f × (110 ∷ x ≡ unary_text u ++ (32 ∷ before f (41 ∷ y))) × Fits k y
Fits (joint ∷ k) x = (b : Binary) × (y : List ℕ) × (x ≡ binary_text b ++ (32 ∷ y)) × Fits k y

-- a word that is waited for comes first
pub fits_bytes : (w : List ℕ) (k : List Need) (x : List ℕ) → Fits (bytes w k) x → (y : List ℕ) × (x ≡ w ++ y) × Fits k y
fits_bytes [] k x h = (x, refl, h)
fits_bytes (c ∷ w) k x (y, e, h) = let r = fits_bytes w k y h in (r.0, e ∙ ap (λ z. c ∷ z) r.1, r.2)

-- one test of a step
pub pick : {P : Type 0} (b c : ℕ) (x y : Option (List Need)) (m : List Need) → cond (eqb b c) x y ≡ Some m → (b ≡ c → x ≡ Some m → P) → (y ≡ Some m → P) → P
pick b c x y m e hit miss = ⊎_elim (λ t. hit (eqb-true b c t) (sym (cond-true (eqb b c) x y t) ∙ e)) (λ f. miss (sym (cond-false (eqb b c) x y f) ∙ e)) (cases_Bool (eqb b c))

-- one test of any kind
pub choose : {P : Type 0} (t : Bool) (x y : Option (List Need)) (m : List Need) → cond t x y ≡ Some m → (t ≡ true → x ≡ Some m → P) → (y ≡ Some m → P) → P
choose t x y m e hit miss = ⊎_elim (λ h. hit h (sym (cond-true t x y h) ∙ e)) (λ f. miss (sym (cond-false t x y f) ∙ e)) (cases_Bool t)

-- equal stacks after a step
pub some_same : (k m : List Need) → Some k ≡ Some m → k ≡ m
some_same k m e = cc

-- no stack comes of none
pub never : {P : Type 0} (m : List Need) → None ≡ Some m → P
never m e = absurd cc

-- bytes that fit a stack fit an equal one
moved : (k m : List Need) (x : List ℕ) → Some k ≡ Some m → Fits m x → Fits k x
moved k m x e h = subst (λ n. Fits n x) (sym (some_same k m e)) h

-- bytes that fit a word and a stack
hit_word : (w : List ℕ) (k m : List Need) (x : List ℕ) → Some (bytes w k) ≡ Some m → Fits m x → (y : List ℕ) × (x ≡ w ++ y) × Fits k y
hit_word w k m x e h = fits_bytes w k x (moved (bytes w k) m x e h)

-- a leaf's word behind its first byte
leaf_hit : (n : ℕ) (l : Leaf) (c : ℕ) (w : List ℕ) (k m : List Need) (b : ℕ) (x : List ℕ) → Small l → leaf_text l ≡ c ∷ w → b ≡ c → Some (bytes w k) ≡ Some m → Fits m x → Fits (form n ∷ k) (b ∷ x)
leaf_hit n l c w k m b x small is eb e h =
    let r = hit_word w k m x e h in
    (leaf l, r.0, small, (λ i. eb i ∷ r.1 i) ∙ ap (λ z. z ++ r.0) (sym is), r.2)

-- a bracket is the first byte of a group
open_sound : (n : ℕ) (k m : List Need) (b : ℕ) (x : List ℕ) → b ≡ 40 → on_open n k ≡ Some m → Fits m x → Fits (form n ∷ k) (b ∷ x)
open_sound zero k m b x eb e h = never m e
open_sound (suc n) k m b x eb e h =
    let r = moved (inner n ∷ k) m x e h in
    (r.0, r.1, r.2, ap (λ z. z ∷ x) eb ∙ r.3, r.4)

-- a byte that begins a formula
form_sound : (n : ℕ) (k m : List Need) (b : ℕ) (x : List ℕ) → on_form n k b ≡ Some m → Fits m x → Fits (form n ∷ k) (b ∷ x)
form_sound n k m b x e h =
    pick b 40 _ _ m e (λ eb e. open_sound n k m b x eb e h)
    (λ e. pick b 116 _ _ m e (λ eb e. leaf_hit n True 116 (codes "rue") k m b x tt refl eb e h)
    (λ e. pick b 102 _ _ m e (λ eb e. leaf_hit n False 102 (codes "alse") k m b x tt refl eb e h)
    (λ e. pick b 101 _ _ m e (λ eb e. leaf_hit n End 101 (codes "nd") k m b x tt refl eb e h)
    (λ e. pick b 115 _ _ m e (λ eb e. let r = moved (after_s ∷ k) m x e h in (leaf r.0, r.1, r.2, ap (λ z. z ∷ x) eb ∙ r.3, r.4))
    (λ e. never m e)))))

-- the first digit of a number
number_sound : (k : List Need) (b : ℕ) (x : List ℕ) → (b ≡ 48 → ⊥) → is_digit b ≡ true → Fits (digit ∷ k) x → Fits (after_s ∷ k) (b ∷ x)
number_sound k b x nz d (inl h) =
    let r = digit_range b d in
    let e : b ≡ 48 + (b - 48) = omega (arith, r.0) in
    (Symbol (b - 48), x, omega (arith, r.1), ap (λ z. 115 ∷ z ∷ x) e ∙ ap (λ z. 115 ∷ (z ++ x)) (sym (one_decimal (b - 48) (omega (arith, r.1)))), h)
number_sound k b x nz d (inr (c, y, dc, ex, h)) =
    let r = digit_range b d in
    let q = digit_range c dc in
    let e : b ≡ 48 + (b - 48) = omega (arith, r.0) in
    let f : c ≡ 48 + (c - 48) = omega (arith, q.0) in
    (Symbol ((b - 48) * 10 + (c - 48)), y, omega (arith, r.1, q.1), ap (λ z. 115 ∷ b ∷ z) ex ∙ (λ i. 115 ∷ e i ∷ f i ∷ y) ∙ ap (λ z. 115 ∷ (z ++ y)) (sym (two_decimal (b - 48) (c - 48) (omega (arith, r.0)) (omega (arith, q.1)))), h)

-- a byte behind an `s`
s_sound : (k m : List Need) (b : ℕ) (x : List ℕ) → on_s k b ≡ Some m → Fits m x → Fits (after_s ∷ k) (b ∷ x)
s_sound k m b x e h =
    pick b 116 _ _ m e (λ eb e. let r = hit_word (codes "art") k m x e h in (Start, r.0, tt, (λ i. 115 ∷ eb i ∷ r.1 i), r.2))
    (λ e. ⊎_elim
    (λ t. (Symbol 0, x, omega arith, ap (λ z. 115 ∷ z ∷ x) (eqb-true b 48 t), moved k m x (sym (cond-true (eqb b 48) _ _ t) ∙ e) h))
    (λ f. choose (is_digit b) _ _ m (sym (cond-false (eqb b 48) _ _ f) ∙ e) (λ d e. number_sound k b x (eqb-false b 48 f) d (moved (digit ∷ k) m x e h)) (λ e. never m e))
    (cases_Bool (eqb b 48)))

-- the rest of a group of one operand
one_sound : (n : ℕ) (u : Unary) (k : List Need) (x : List ℕ) (z : List ℕ) → z ≡ unary_text u ++ (32 ∷ x) → Fits (single n k) x → (f : Tree) × (y : List ℕ) × TreeWithin n f × (z ≡ unary_text u ++ (32 ∷ before f (41 ∷ y))) × Fits k y
one_sound n u k x z e (f, y, w, ex, (y', ey, h)) = (f, y', w, e ∙ ap (λ t. unary_text u ++ (32 ∷ t)) (ex ∙ ap (before f) ey), h)

-- a byte behind the `n` of a group
n_sound : (n : ℕ) (k m : List Need) (b : ℕ) (x : List ℕ) → on_n n k b ≡ Some m → Fits m x → Fits (after_n n ∷ k) (b ∷ x)
n_sound n k m b x e h =
    pick b 111 _ _ m e (λ eb e. let r = hit_word (codes "t ") (single n k) m x e h in let g = one_sound n Not k r.0 (110 ∷ b ∷ x) (λ i. 110 ∷ eb i ∷ r.1 i) r.2 in (Not, g.0, g.1, g.2, g.3, g.4))
    (λ e. pick b 101 _ _ m e (λ eb e. let r = hit_word (codes "xt ") (single n k) m x e h in let g = one_sound n Next k r.0 (110 ∷ b ∷ x) (λ i. 110 ∷ eb i ∷ r.1 i) r.2 in (Next, g.0, g.1, g.2, g.3, g.4))
    (λ e. never m e))

-- the first byte of a word of two operands
joint_sound : (k m : List Need) (b : ℕ) (x : List ℕ) → on_joint k b ≡ Some m → Fits m x → Fits (joint ∷ k) (b ∷ x)
joint_sound k m b x e h =
    pick b 97 _ _ m e (λ eb e. let r = hit_word (codes "nd ") k m x e h in (And, r.0, (λ i. eb i ∷ r.1 i), r.2))
    (λ e. pick b 111 _ _ m e (λ eb e. let r = hit_word (codes "r ") k m x e h in (Or, r.0, (λ i. eb i ∷ r.1 i), r.2))
    (λ e. pick b 117 _ _ m e (λ eb e. let r = hit_word (codes "ntil ") k m x e h in (Until, r.0, (λ i. eb i ∷ r.1 i), r.2))
    (λ e. pick b 115 _ _ m e (λ eb e. let r = hit_word (codes "ince ") k m x e h in (Since, r.0, (λ i. eb i ∷ r.1 i), r.2))
    (λ e. never m e))))

-- a group that begins with an operand
enter_sound : (n : ℕ) (k : List Need) (x : List ℕ) → Fits (form n ∷ pair n k) x → Fits (inner n ∷ k) x
enter_sound n k x (f, y, w, e, (y1, e1, (o, y2, e2, (g, y3, v, e3, (y4, e4, h))))) =
    (two f o g, y4, (w, v), ap (λ z. 40 ∷ z) (e ∙ ap (before f) (e1 ∙ ap (λ z. 32 ∷ z) (e2 ∙ ap (λ z. binary_text o ++ (32 ∷ z)) (e3 ∙ ap (before g) e4)))), h)

-- the first byte inside a group
inner_sound : (n : ℕ) (k m : List Need) (b : ℕ) (x : List ℕ) → on_inner n k b ≡ Some m → Fits m x → Fits (inner n ∷ k) (b ∷ x)
inner_sound n k m b x e h =
    pick b 110 _ _ m e (λ eb e. let r = moved (after_n n ∷ k) m x e h in (one r.0 r.1, r.2, r.3, ap (λ z. 40 ∷ z) (ap (λ z. z ∷ x) eb ∙ r.4), r.5))
    (λ e. pick b 121 _ _ m e (λ eb e. let r = hit_word (codes "est ") (single n k) m x e h in let g = one_sound n Yest k r.0 (b ∷ x) (λ i. eb i ∷ r.1 i) r.2 in (one Yest g.0, g.1, g.2, ap (λ z. 40 ∷ z) g.3, g.4))
    (λ e. enter_sound n k (b ∷ x) (form_sound n (pair n k) m b x e h)))

-- what fits after a byte fits with the byte before it
pub step_sound : (k m : List Need) (b : ℕ) (x : List ℕ) → step k b ≡ Some m → Fits m x → Fits k (b ∷ x)
step_sound [] m b x e h = never m e
step_sound (byte n ∷ k) m b x e h = pick b n _ _ m e (λ eb e. (x, ap (λ z. z ∷ x) eb, moved k m x e h)) (λ e. never m e)
step_sound (form n ∷ k) m b x e h = form_sound n k m b x e h
step_sound (after_s ∷ k) m b x e h = s_sound k m b x e h
step_sound (digit ∷ k) m b x e h = choose (is_digit b) _ _ m e (λ d e. inr (b, x, d, refl, moved k m x e h)) (λ e. inl (step_sound k m b x e h))
step_sound (inner n ∷ k) m b x e h = inner_sound n k m b x e h
step_sound (after_n n ∷ k) m b x e h = n_sound n k m b x e h
step_sound (joint ∷ k) m b x e h = joint_sound k m b x e h

-- what fits after reading on fits with the bytes that were read before it
pub goes_sound : {k' : List Need} {bs' : List ℕ} {k : List Need} {bs : List ℕ} → Goes k' bs' k bs → (w : List ℕ) × (bs ≡ w ++ bs') × ((x : List ℕ) → Fits k' x → Fits k (w ++ x))
goes_sound stay = ([], refl, λ x h. h)
goes_sound (more {k} {m} {b} e g) = let r = goes_sound g in (b ∷ r.0, ap (λ z. b ∷ z) r.1, λ x h. step_sound k m b (r.0 ++ x) e (r.2 x h))
goes_sound (skip p g) = let r = goes_sound g in (r.0, r.1, λ x h. inl (r.2 x h))
goes_sound (enter {k} {n} p q g) = let r = goes_sound g in (r.0, r.1, λ x h. enter_sound n k (r.0 ++ x) (r.2 x h))

-- each stack can be followed by something
pub filled : (k : List Need) → (x : List ℕ) × Fits k x
filled [] = ([], refl)
filled (byte n ∷ k) = let r = filled k in (n ∷ r.0, (r.0, refl, r.1))
filled (form n ∷ k) = let r = filled k in (codes "true" ++ r.0, (leaf True, r.0, tt, refl, r.1))
filled (after_s ∷ k) = let r = filled k in (48 ∷ r.0, (Symbol 0, r.0, omega arith, refl, r.1))
filled (digit ∷ k) = let r = filled k in (r.0, inl r.1)
filled (inner n ∷ k) = let r = filled k in (codes "not true)" ++ r.0, (one Not (leaf True), r.0, tt, refl, r.1))
filled (after_n n ∷ k) = let r = filled k in (codes "ot true)" ++ r.0, (Not, leaf True, r.0, tt, refl, r.1))
filled (joint ∷ k) = let r = filled k in (codes "or " ++ r.0, (Or, r.0, refl, r.1))
