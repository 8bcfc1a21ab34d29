-- A text writes one rule at most. Assumes nothing.
use Rattle.std.proofs.Common.{◌≡◌, ℕ, zero, suc, ◌+◌, ◌-◌, ◌*◌, ◌/◌, ◌%◌, ◌<◌, ◌≤◌, cond, eqb, ltb, List, [], ◌∷◌, ◌++◌, codes, sym, refl, ap, ◌∙◌, subst, ⊎_elim, append-nil, arith}
use Rattle.std.proofs.lemmas.List.{append_cancel_left}
use Rattle.std.proofs.lemmas.Bool.{cases_lt, cond-true, cond-false, le-ltb, ne_eqb}
use Rattle.text.specs.declared.term.Leaf.{Leaf}
use Rattle.text.specs.declared.term.Leaf.TheVariants.{True, False, Start, End, Symbol}
use Rattle.text.specs.declared.term.Unary.{Unary}
use Rattle.text.specs.declared.term.Unary.TheVariants.{Not, Next, Yest}
use Rattle.text.specs.declared.term.Binary.{Binary}
use Rattle.text.specs.declared.term.Binary.TheVariants.{And, Or, Until, Since}
use Rattle.text.specs.Grammar.{decimal, written, Within, RuleFormulas, rule_text}
use Rattle.text.specs.Trees.{meant, Tree, leaf, one, two, leaf_text, unary_text, binary_text, Small, TreeWithin}
use Rattle.text.specs.Machine.{is_digit, Plain, Off, before}
use Rattle.text.specs.Laws.{Unambiguous}
use Rattle.sheet.specs.Formulas.{Formula}
use Rattle.text.proofs.Shapes.{shaped, meant_shaped, within_down}
use Rattle.text.proofs.Numbers.{one_decimal}
use Rattle.text.proofs.Complete.{before_written, first_off, digit_is}

-- each number of a formula has at most two digits
abbrev Proper : Tree → Type 0
Proper (leaf l) = Small l
Proper (one u f) = Proper f
Proper (two f b g) = Proper f × Proper g

-- a formula within some depth has such numbers
proper : (f : Tree) (n : ℕ) → TreeWithin n f → Proper f
proper (leaf l) n w = w
proper (one u f) zero w = absurd w
proper (one u f) (suc n) w = proper f n w
proper (two f b g) zero w = absurd w
proper (two f b g) (suc n) w = (proper f n w.0, proper g n w.1)

-- all but the first byte
abbrev tail : List ℕ → List ℕ
tail [] = []
tail (b ∷ bs) = bs

-- 1 inside the bracket of a group of one, 2 inside that of a group of two
abbrev shape_in : List ℕ → ℕ
shape_in [] = 2
shape_in (c ∷ bs) = cond (eqb c 110) 1 (cond (eqb c 121) 1 2)

-- 0 for bytes that begin with a leaf, 1 with a group of one, 2 with a group of two
abbrev shape : List ℕ → ℕ
shape [] = 0
shape (b ∷ bs) = cond (eqb b 40) (shape_in bs) 0

-- the shape of a leaf
shape_leaf : (l : Leaf) (r : List ℕ) → shape (leaf_text l ++ r) ≡ 0
shape_leaf True r = refl
shape_leaf False r = refl
shape_leaf Start r = refl
shape_leaf End r = refl
shape_leaf (Symbol v) r = refl

-- the shape of a group of one
shape_one : (u : Unary) (f : Tree) (r : List ℕ) → shape (before (one u f) r) ≡ 1
shape_one Not f r = refl
shape_one Next f r = refl
shape_one Yest f r = refl

-- the shape inside a bracket where no word of a group of one stands
shape_off : (x : List ℕ) → Off 110 x × Off 121 x → shape_in x ≡ 2
shape_off [] o = refl
shape_off (c ∷ x) o = cond-false (eqb c 110) 1 _ (ne_eqb c 110 o.0) ∙ cond-false (eqb c 121) 1 2 (ne_eqb c 121 o.1)

-- the shape of a group of two
shape_two : (f : Tree) (b : Binary) (g : Tree) (r : List ℕ) → shape (before (two f b g) r) ≡ 2
shape_two f b g r = shape_off (before f (32 ∷ (binary_text b ++ (32 ∷ before g (41 ∷ r))))) (first_off f (32 ∷ (binary_text b ++ (32 ∷ before g (41 ∷ r)))))

-- bytes of two shapes differ
apart : (x y : List ℕ) (m n : ℕ) → shape x ≡ m → shape y ≡ n → (m ≡ n → ⊥) → x ≡ y → ⊥
apart x y m n p q h e = h (sym p ∙ ap shape e ∙ q)

-- the symbol whose first digit is d
abbrev number_of : ℕ → List ℕ → Leaf
number_of d [] = Symbol d
number_of d (c ∷ bs) = cond (is_digit c) (Symbol (d * 10 + (c - 48))) (Symbol d)

-- the leaf that begins with `s`, from behind it
abbrev name_of : List ℕ → Leaf
name_of [] = Start
name_of (b ∷ bs) = cond (eqb b 116) Start (cond (eqb b 48) (Symbol 0) (number_of (b - 48) bs))

-- the leaf that some bytes begin with
abbrev leaf_of : List ℕ → Leaf
leaf_of [] = True
leaf_of (b ∷ bs) = cond (eqb b 116) True (cond (eqb b 102) False (cond (eqb b 101) End (name_of bs)))

-- a number that ends after one digit
number_plain : (d : ℕ) (r : List ℕ) → Plain r → number_of d r ≡ Symbol d
number_plain d [] p = refl
number_plain d (c ∷ r) p = cond-false (is_digit c) _ _ p

-- a name that is a number
name_number : (b : ℕ) (bs : List ℕ) → (b ≡ 116 → ⊥) → (b ≡ 48 → ⊥) → name_of (b ∷ bs) ≡ number_of (b - 48) bs
name_number b bs h k = cond-false (eqb b 116) _ _ (ne_eqb b 116 h) ∙ cond-false (eqb b 48) _ _ (ne_eqb b 48 k)

-- the symbol that is written
name_symbol : (v : ℕ) (r : List ℕ) → v < 100 → Plain r → name_of (decimal v ++ r) ≡ Symbol v
name_symbol zero r lt p = refl
name_symbol (suc w) r lt p = ⊎_elim short long (cases_lt (suc w) 10)
  where
    short : suc w < 10 → name_of (decimal (suc w) ++ r) ≡ Symbol (suc w)
    short h =
        let e : 48 + suc w - 48 ≡ suc w = omega arith in
        ap (λ x. name_of (x ++ r)) (one_decimal (suc w) h) ∙ name_number (48 + suc w) r (λ e. omega arith) (λ e. omega arith) ∙ ap (λ d. number_of d r) e ∙ number_plain (suc w) r p

    long : 10 ≤ suc w → name_of (decimal (suc w) ++ r) ≡ Symbol (suc w)
    long h =
        let q : suc w / 10 < 10 = omega arith in
        let q' : 0 < suc w / 10 = omega arith in
        let m : suc w % 10 < 10 = omega arith in
        let e : (48 + suc w / 10 - 48) * 10 + (48 + suc w % 10 - 48) ≡ suc w = omega arith in
        ap (λ x. name_of (x ++ r)) (cond-false (ltb (suc w) 10) ((48 + suc w) ∷ []) ((48 + suc w / 10) ∷ (48 + suc w % 10) ∷ []) (le-ltb (suc w) 10 h))
        ∙ name_number (48 + suc w / 10) ((48 + suc w % 10) ∷ r) (λ e. omega arith) (λ e. omega arith)
        ∙ cond-true (is_digit (48 + suc w % 10)) _ _ (digit_is (suc w % 10) m)
        ∙ ap Symbol e

-- the leaf that is written
leaf_is : (l : Leaf) (r : List ℕ) → Small l → Plain r → leaf_of (leaf_text l ++ r) ≡ l
leaf_is True r s p = refl
leaf_is False r s p = refl
leaf_is Start r s p = refl
leaf_is End r s p = refl
leaf_is (Symbol v) r s p = name_symbol v r s p

-- the word of one operand that some bytes begin with
abbrev unary_of : List ℕ → Unary
unary_of [] = Not
unary_of (b ∷ []) = Not
unary_of (b ∷ c ∷ bs) = cond (eqb b 121) Yest (cond (eqb c 111) Not Next)

-- the word that is written
unary_is : (u : Unary) (x : List ℕ) → unary_of (unary_text u ++ x) ≡ u
unary_is Not x = refl
unary_is Next x = refl
unary_is Yest x = refl

-- the word of two operands that some bytes begin with
abbrev binary_of : List ℕ → Binary
binary_of [] = And
binary_of (b ∷ bs) = cond (eqb b 97) And (cond (eqb b 111) Or (cond (eqb b 117) Until Since))

-- the word that is written
binary_is : (b : Binary) (x : List ℕ) → binary_of (binary_text b ++ x) ≡ b
binary_is And x = refl
binary_is Or x = refl
binary_is Until x = refl
binary_is Since x = refl

-- equal words in front are taken away
strip : {A : Type 0} (word : A → List ℕ) (u v : A) (x y : List ℕ) → u ≡ v → word u ++ x ≡ word v ++ y → x ≡ y
strip word u v x y p e = append_cancel_left (word v) x y (ap (λ w. word w ++ x) (sym p) ∙ e)

-- equal bytes write equal formulas, and have equal bytes after them
pub same : (f g : Tree) (r k : List ℕ) → Proper f → Proper g → Plain r → Plain k → before f r ≡ before g k → (f ≡ g) × (r ≡ k)
same (leaf l) (leaf m) r k s t p q e =
    let i = sym (leaf_is l r s p) ∙ ap leaf_of e ∙ leaf_is m k t q in
    (ap leaf i, strip leaf_text l m r k i e)
same (leaf l) (one v g) r k s t p q e = absurd (apart _ _ 0 1 (shape_leaf l r) (shape_one v g k) (λ z. omega arith) e)
same (leaf l) (two g c h) r k s t p q e = absurd (apart _ _ 0 2 (shape_leaf l r) (shape_two g c h k) (λ z. omega arith) e)
same (one u f) (leaf m) r k s t p q e = absurd (apart _ _ 1 0 (shape_one u f r) (shape_leaf m k) (λ z. omega arith) e)
same (one u f) (one v g) r k s t p q e =
    let e' = ap tail e in
    let i = sym (unary_is u (32 ∷ before f (41 ∷ r))) ∙ ap unary_of e' ∙ unary_is v (32 ∷ before g (41 ∷ k)) in
    let d = same f g (41 ∷ r) (41 ∷ k) s t refl refl (ap tail (strip unary_text u v (32 ∷ before f (41 ∷ r)) (32 ∷ before g (41 ∷ k)) i e')) in
    ((λ j. one (i j) (d.0 j)), ap tail d.1)
same (one u f) (two g c h) r k s t p q e = absurd (apart _ _ 1 2 (shape_one u f r) (shape_two g c h k) (λ z. omega arith) e)
same (two f b f') (leaf m) r k s t p q e = absurd (apart _ _ 2 0 (shape_two f b f' r) (shape_leaf m k) (λ z. omega arith) e)
same (two f b f') (one v g) r k s t p q e = absurd (apart _ _ 2 1 (shape_two f b f' r) (shape_one v g k) (λ z. omega arith) e)
same (two f b f') (two g c g') r k s t p q e =
    let x = 32 ∷ before f' (41 ∷ r) in
    let y = 32 ∷ before g' (41 ∷ k) in
    let d = same f g (32 ∷ (binary_text b ++ x)) (32 ∷ (binary_text c ++ y)) s.0 t.0 refl refl (ap tail e) in
    let e' = ap tail d.1 in
    let i = sym (binary_is b x) ∙ ap binary_of e' ∙ binary_is c y in
    let d' = same f' g' (41 ∷ r) (41 ∷ k) s.1 t.1 refl refl (ap tail (strip binary_text b c x y i e')) in
    ((λ j. two (d.0 j) (i j) (d'.0 j)), ap tail d'.1)

-- a text writes at most one rule
pub unambiguous : Unambiguous
unambiguous d e r t bs h k =
    let arrow = codes " => " in
    let w : (q : RuleFormulas) → before (shaped q.activator) (arrow ++ before (shaped q.target) []) ≡ rule_text q = λ q.
    before_written (shaped q.activator) (arrow ++ before (shaped q.target) [])
    ∙ ap (λ z. written (meant (shaped q.activator)) ++ (arrow ++ z)) (before_written (shaped q.target) [] ∙ append-nil (written (meant (shaped q.target))))
    ∙ (λ i. written (meant_shaped q.activator i) ++ (arrow ++ written (meant_shaped q.target i))) in
    let p : (f : Formula) (n : ℕ) → Within n f → Proper (shaped f) = λ f n v. proper (shaped f) n (within_down (shaped f) n (subst (Within n) (sym (meant_shaped f)) v)) in
    let a = same (shaped r.activator) (shaped t.activator) (arrow ++ before (shaped r.target) []) (arrow ++ before (shaped t.target) []) (p r.activator d h.left) (p t.activator e k.left) refl refl (w r ∙ h.is ∙ sym k.is ∙ sym (w t)) in
    let b = same (shaped r.target) (shaped t.target) [] [] (p r.target d h.right) (p t.target e k.right) tt tt (append_cancel_left arrow (before (shaped r.target) []) (before (shaped t.target) []) a.1) in
    let back : (f g : Formula) → shaped f ≡ shaped g → f ≡ g = λ f g i. sym (meant_shaped f) ∙ ap meant i ∙ meant_shaped g in
    λ j. record { activator = back r.activator t.activator a.0 j; target = back r.target t.target b.0 j }
