-- How deep a reading stands. Assumes nothing.
use Rattle.std.proofs.Common.{◌≡◌, ℕ, zero, suc, ◌+◌, ◌-◌, Bool, true, false, cond, eqb, List, [], ◌∷◌, ◌++◌, Some, codes, sym, refl, ap, ◌∙◌, subst, ⊎_elim, arith}
use Rattle.std.proofs.lemmas.Bool.{cases_Bool, cond-true, cond-false, eqb-false, ne_eqb}
use Rattle.text.specs.Grammar.{opened}
use Rattle.text.specs.Machine.{Need, byte, form, after_s, digit, inner, after_n, joint, bytes, is_digit, on_s, on_open, on_form, on_inner, on_n, on_joint, pair, single, step, Goes, stay, more, skip, enter}
use Rattle.text.proofs.Language.{pick, choose, some_same, never}
use Rattle.text.proofs.Numbers.{digit_range}

-- the groups that a stack still has to close
abbrev pub weight : List Need → ℕ
weight [] = 0
weight (byte n ∷ k) = cond (eqb n 41) (suc (weight k)) (weight k)
weight (form n ∷ k) = weight k
weight (after_s ∷ k) = weight k
weight (digit ∷ k) = weight k
weight (inner n ∷ k) = suc (weight k)
weight (after_n n ∷ k) = suc (weight k)
weight (joint ∷ k) = weight k

-- what is open and what may still be opened come to d everywhere, and no bracket is waited for by itself
abbrev pub Even : ℕ → List Need → Type 0
Even d [] = Unit {0}
Even d (byte n ∷ k) = (n ≡ 40 → ⊥) × Even d k
Even d (form n ∷ k) = (n + weight k ≡ d) × Even d k
Even d (after_s ∷ k) = Even d k
Even d (digit ∷ k) = Even d k
Even d (inner n ∷ k) = (suc n + weight k ≡ d) × Even d k
Even d (after_n n ∷ k) = (suc n + weight k ≡ d) × Even d k
Even d (joint ∷ k) = Even d k

-- how many groups are open after the byte b
abbrev bump : ℕ → ℕ → ℕ
bump b n = cond (eqb b 40) (suc n) (cond (eqb b 41) (n - 1) n)

-- a word has no brackets
abbrev safe : List ℕ → Bool
safe [] = true
safe (b ∷ w) = cond (eqb b 40) false (cond (eqb b 41) false (safe w))

-- its first byte and its rest have none
safe_parts : (b : ℕ) (w : List ℕ) → safe (b ∷ w) ≡ true → (eqb b 40 ≡ false) × (eqb b 41 ≡ false) × (safe w ≡ true)
safe_parts b w h = ⊎_elim (λ t. absurd (clash (sym (cond-true (eqb b 40) false _ t) ∙ h))) (λ f. let g = sym (cond-false (eqb b 40) false _ f) ∙ h in ⊎_elim (λ t. absurd (clash (sym (cond-true (eqb b 41) false _ t) ∙ g))) (λ f'. (f, f', sym (cond-false (eqb b 41) false _ f') ∙ g)) (cases_Bool (eqb b 41))) (cases_Bool (eqb b 40))
  where
    clash : false ≡ true → ⊥
    clash e = cc

-- a word without brackets
pub even_bytes : (d : ℕ) (w : List ℕ) (k : List Need) → safe w ≡ true → Even d k → Even d (bytes w k) × (weight k ≡ weight (bytes w k))
even_bytes d [] k s e = (e, refl)
even_bytes d (b ∷ w) k s e =
    let p = safe_parts b w s in
    let r = even_bytes d w k p.2 e in
    ((eqb-false b 40 p.0, r.0), r.1 ∙ sym (cond-false (eqb b 41) _ _ p.1))

-- the stack m after the byte b, behind a stack of n open groups
abbrev Kept : ℕ → ℕ → ℕ → List Need → Type 0
Kept d b n m = Even d m × (bump b n ≡ weight m)

-- a byte that is no bracket opens and closes nothing
flat : (b n : ℕ) → (b ≡ 40 → ⊥) → (b ≡ 41 → ⊥) → bump b n ≡ n
flat b n h k = cond-false (eqb b 40) _ _ (ne_eqb b 40 h) ∙ cond-false (eqb b 41) _ _ (ne_eqb b 41 k)

-- a byte that is no bracket, and the stack behind it
to : (d b n : ℕ) (k m : List Need) → (b ≡ 40 → ⊥) → (b ≡ 41 → ⊥) → Even d k → n ≡ weight k → Some k ≡ Some m → Kept d b n m
to d b n k m h h' e w is = subst (Kept d b n) (some_same k m is) (e, flat b n h h' ∙ w)

-- a byte that is no bracket, and a word behind it
to_word : (d b n : ℕ) (w : List ℕ) (k m : List Need) → (b ≡ 40 → ⊥) → (b ≡ 41 → ⊥) → safe w ≡ true → Even d k → n ≡ weight k → Some (bytes w k) ≡ Some m → Kept d b n m
to_word d b n w k m h h' s e is = λ eq. let r = even_bytes d w k s e in to d b n (bytes w k) m h h' r.0 (is ∙ r.1) eq

-- a bracket that opens a group
open_kept : (d n : ℕ) (k m : List Need) (b : ℕ) → b ≡ 40 → on_open n k ≡ Some m → Even d (form n ∷ k) → Kept d b (weight k) m
open_kept d zero k m b eb e v = never m e
open_kept d (suc n) k m b eb e v = subst (Kept d b (weight k)) (some_same (inner n ∷ k) m e) (v, ap (λ x. bump x (weight k)) eb)

-- the first byte of a formula
form_kept : (d n : ℕ) (k m : List Need) (b : ℕ) → on_form n k b ≡ Some m → Even d (form n ∷ k) → Kept d b (weight k) m
form_kept d n k m b e v =
    pick b 40 _ _ m e (λ eb e. open_kept d n k m b eb e v)
    (λ e. pick b 116 _ _ m e (λ eb e. to_word d b _ (codes "rue") k m (λ z. omega arith) (λ z. omega arith) refl v.1 refl e)
    (λ e. pick b 102 _ _ m e (λ eb e. to_word d b _ (codes "alse") k m (λ z. omega arith) (λ z. omega arith) refl v.1 refl e)
    (λ e. pick b 101 _ _ m e (λ eb e. to_word d b _ (codes "nd") k m (λ z. omega arith) (λ z. omega arith) refl v.1 refl e)
    (λ e. pick b 115 _ _ m e (λ eb e. to d b _ (after_s ∷ k) m (λ z. omega arith) (λ z. omega arith) v.1 refl e)
    (λ e. never m e)))))

-- a byte behind an `s`
s_kept : (d : ℕ) (k m : List Need) (b : ℕ) → on_s k b ≡ Some m → Even d k → Kept d b (weight k) m
s_kept d k m b e v =
    pick b 116 _ _ m e (λ eb e. to_word d b _ (codes "art") k m (λ z. omega arith) (λ z. omega arith) refl v refl e)
    (λ e. pick b 48 _ _ m e (λ eb e. to d b _ k m (λ z. omega arith) (λ z. omega arith) v refl e)
    (λ e. choose (is_digit b) _ _ m e (λ t e. let r = digit_range b t in to d b _ (digit ∷ k) m (λ z. omega (arith, r.0)) (λ z. omega (arith, r.0)) v refl e) (λ e. never m e)))

-- a byte that is waited for
byte_kept : (d n : ℕ) (k m : List Need) (b : ℕ) → step (byte n ∷ k) b ≡ Some m → Even d (byte n ∷ k) → Kept d b (weight (byte n ∷ k)) m
byte_kept d n k m b e v = pick b n _ _ m e (λ eb e. subst (λ x. Kept d x (weight (byte n ∷ k)) m) (sym eb) (subst (Kept d n (weight (byte n ∷ k))) (some_same k m e) (v.1, cond-false (eqb n 40) _ _ (ne_eqb n 40 v.0) ∙ close (eqb n 41)))) (λ e. never m e)
  where
    close : (t : Bool) → cond t (cond t (suc (weight k)) (weight k) - 1) (cond t (suc (weight k)) (weight k)) ≡ weight k
    close true = omega arith
    close false = refl

-- the rest of a group of one
single_even : (d n : ℕ) (k : List Need) → suc n + weight k ≡ d → Even d k → Even d (single n k)
single_even d n k h v = (omega arith, ((λ z. omega arith), v))

-- a byte behind the `n` of a group
n_kept : (d n : ℕ) (k m : List Need) (b : ℕ) → on_n n k b ≡ Some m → Even d (after_n n ∷ k) → Kept d b (suc (weight k)) m
n_kept d n k m b e v =
    let s = single_even d n k v.0 v.1 in
    pick b 111 _ _ m e (λ eb e. to_word d b _ (codes "t ") (single n k) m (λ z. omega arith) (λ z. omega arith) refl s refl e)
    (λ e. pick b 101 _ _ m e (λ eb e. to_word d b _ (codes "xt ") (single n k) m (λ z. omega arith) (λ z. omega arith) refl s refl e)
    (λ e. never m e))

-- the first byte of a word of two operands
joint_kept : (d : ℕ) (k m : List Need) (b : ℕ) → on_joint k b ≡ Some m → Even d k → Kept d b (weight k) m
joint_kept d k m b e v =
    pick b 97 _ _ m e (λ eb e. to_word d b _ (codes "nd ") k m (λ z. omega arith) (λ z. omega arith) refl v refl e)
    (λ e. pick b 111 _ _ m e (λ eb e. to_word d b _ (codes "r ") k m (λ z. omega arith) (λ z. omega arith) refl v refl e)
    (λ e. pick b 117 _ _ m e (λ eb e. to_word d b _ (codes "ntil ") k m (λ z. omega arith) (λ z. omega arith) refl v refl e)
    (λ e. pick b 115 _ _ m e (λ eb e. to_word d b _ (codes "ince ") k m (λ z. omega arith) (λ z. omega arith) refl v refl e)
    (λ e. never m e))))

-- a group that begins with an operand
pair_even : (d n : ℕ) (k : List Need) → Even d (inner n ∷ k) → Even d (form n ∷ pair n k)
pair_even d n k v = (omega (arith, v.0), ((λ z. omega arith), single_even d n k v.0 v.1))

-- the first byte inside a group
inner_kept : (d n : ℕ) (k m : List Need) (b : ℕ) → on_inner n k b ≡ Some m → Even d (inner n ∷ k) → Kept d b (suc (weight k)) m
inner_kept d n k m b e v =
    pick b 110 _ _ m e (λ eb e. to d b _ (after_n n ∷ k) m (λ z. omega arith) (λ z. omega arith) v refl e)
    (λ e. pick b 121 _ _ m e (λ eb e. to_word d b _ (codes "est ") (single n k) m (λ z. omega arith) (λ z. omega arith) refl (single_even d n k v.0 v.1) refl e)
    (λ e. form_kept d n (pair n k) m b e (pair_even d n k v)))

-- every byte keeps the count
step_kept : (d : ℕ) (k m : List Need) (b : ℕ) → step k b ≡ Some m → Even d k → Kept d b (weight k) m
step_kept d [] m b e v = never m e
step_kept d (byte n ∷ k) m b e v = byte_kept d n k m b e v
step_kept d (form n ∷ k) m b e v = form_kept d n k m b e v
step_kept d (after_s ∷ k) m b e v = s_kept d k m b e v
step_kept d (digit ∷ k) m b e v = choose (is_digit b) _ _ m e (λ t e. let r = digit_range b t in to d b _ k m (λ z. omega (arith, r.0)) (λ z. omega (arith, r.0)) v refl e) (λ e. step_kept d k m b e v)
step_kept d (inner n ∷ k) m b e v = inner_kept d n k m b e v
step_kept d (after_n n ∷ k) m b e v = n_kept d n k m b e v
step_kept d (joint ∷ k) m b e v = joint_kept d k m b e v

-- reading on keeps the count
pub goes_kept : {k' : List Need} {bs' : List ℕ} {k : List Need} {bs : List ℕ} → (d : ℕ) → Goes k' bs' k bs → Even d k → (w : List ℕ) × (bs ≡ w ++ bs') × Even d k' × (opened (weight k) w ≡ weight k')
goes_kept d stay v = ([], refl, v, refl)
goes_kept d (more {k} {m} {b} e g) v = let s = step_kept d k m b e v in let r = goes_kept d g s.0 in (b ∷ r.0, ap (λ z. b ∷ z) r.1, r.2, ap (λ n. opened n r.0) s.1 ∙ r.3)
goes_kept d (skip p g) v = goes_kept d g v
goes_kept d (enter {k} {n} p q g) v = goes_kept d g (pair_even d n k v)
