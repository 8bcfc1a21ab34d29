-- Each written form is read to its end, and by one way only. Assumes nothing.
use Rattle.std.proofs.Common.{◌≡◌, ℕ, zero, suc, ◌+◌, ◌/◌, ◌%◌, ◌<◌, ◌≤◌, Bool, true, false, eqb, ltb, leb, List, [], ◌∷◌, ◌++◌, Some, None, codes, Option, sym, refl, ap, ◌∙◌, subst, ⊎_elim, append_assoc, arith}
use Rattle.std.proofs.lemmas.Bool.{cases_lt, cond-true, cond-false, and_from, le-leb, le-ltb, ne_eqb}
use Rattle.text.specs.declared.term.Leaf.{Leaf}
use Rattle.text.specs.declared.term.Leaf.TheVariants.{True, False, Start, End, Symbol}
use Rattle.text.specs.declared.term.Unary.{Unary}
use Rattle.text.specs.declared.term.Unary.TheVariants.{Not, Next, Yest}
use Rattle.text.specs.declared.term.Binary.{Binary}
use Rattle.text.specs.declared.term.Binary.TheVariants.{And, Or, Until, Since}
use Rattle.text.specs.Grammar.{decimal, written}
use Rattle.text.specs.Trees.{meant, Tree, leaf, one, two, leaf_text, unary_text, binary_text, Small, TreeWithin}
use Rattle.text.specs.Machine.{Need, byte, form, after_s, digit, inner, joint, is_digit, pair, single, step, may_end, Plain, Off, Halts, Goes, stay, more, skip, enter, before}
use Rattle.text.proofs.Numbers.{one_decimal}
use Rattle.text.proofs.Shapes.{leaf_written, one_written, two_written}
use Rattle.text.proofs.Steps.{trans, over, s_digit}

-- a formula's bytes, and after them r
pub before_written : (f : Tree) (r : List ℕ) → before f r ≡ written (meant f) ++ r
before_written (leaf l) r = ap (λ x. x ++ r) (leaf_written l)
before_written (one u f) r =
    let a = written (meant f) in
    ap (λ x. 40 ∷ x) (ap (λ x. unary_text u ++ (32 ∷ x)) (before_written f (41 ∷ r) ∙ sym (append_assoc a (41 ∷ []) r)) ∙ sym (append_assoc (unary_text u) (32 ∷ (a ++ 41 ∷ [])) r))
    ∙ ap (λ x. x ++ r) (one_written u (meant f))
before_written (two f b g) r =
    let a = written (meant f) in
    let t = written (meant g) ++ 41 ∷ [] in
    let right : before g (41 ∷ r) ≡ t ++ r = before_written g (41 ∷ r) ∙ sym (append_assoc (written (meant g)) (41 ∷ []) r) in
    ap (λ x. 40 ∷ x) (before_written f _ ∙ ap (λ x. a ++ (32 ∷ x)) (ap (λ x. binary_text b ++ (32 ∷ x)) right ∙ sym (append_assoc (binary_text b) (32 ∷ t) r)) ∙ sym (append_assoc a (32 ∷ (binary_text b ++ (32 ∷ t))) r))
    ∙ ap (λ x. x ++ r) (two_written b (meant f) (meant g))

-- the byte of a digit is one
pub digit_is : (n : ℕ) → n < 10 → is_digit (48 + n) ≡ true
digit_is n lt = and_from (leb 48 (48 + n)) (leb (48 + n) 57) (le-leb 48 (48 + n) (omega arith)) (le-leb (48 + n) 57 (omega arith))

-- a number is read to its end, where no digit follows
number_goes : (v : ℕ) (k : List Need) (r : List ℕ) → v < 100 → Plain r → Goes k r (after_s ∷ k) (decimal v ++ r)
number_goes zero k r lt p = more refl stay
number_goes (suc w) k r lt p = ⊎_elim short long (cases_lt (suc w) 10)
  where
    v : ℕ
    v = suc w

    short : suc w < 10 → Goes k r (after_s ∷ k) (decimal (suc w) ++ r)
    short h = subst (λ x. Goes k r (after_s ∷ k) (x ++ r)) (sym (one_decimal (suc w) h)) (more (s_digit k (48 + suc w) (λ e. omega arith) (λ e. omega arith) (digit_is (suc w) h)) (skip p stay))

    long : 10 ≤ suc w → Goes k r (after_s ∷ k) (decimal (suc w) ++ r)
    long h =
        let q : suc w / 10 < 10 = omega arith in
        let q' : 0 < suc w / 10 = omega arith in
        let m : suc w % 10 < 10 = omega arith in
        subst (λ x. Goes k r (after_s ∷ k) (x ++ r)) (sym (cond-false (ltb (suc w) 10) ((48 + suc w) ∷ []) ((48 + suc w / 10) ∷ (48 + suc w % 10) ∷ []) (le-ltb (suc w) 10 h)))
        (more (s_digit k (48 + suc w / 10) (λ e. omega arith) (λ e. omega arith) (digit_is (suc w / 10) q)) (more (cond-true (is_digit (48 + suc w % 10)) (Some k) (step k (48 + suc w % 10)) (digit_is (suc w % 10) m)) stay))

-- a leaf is read to its end
leaf_goes : (l : Leaf) (n : ℕ) (k : List Need) (r : List ℕ) → Small l → Plain r → Goes k r (form n ∷ k) (leaf_text l ++ r)
leaf_goes True n k r s p = more refl (over (codes "rue") k r)
leaf_goes False n k r s p = more refl (over (codes "alse") k r)
leaf_goes Start n k r s p = more refl (more refl (over (codes "art") k r))
leaf_goes End n k r s p = more refl (over (codes "nd") k r)
leaf_goes (Symbol v) n k r s p = more refl (number_goes v k r s p)

-- the word of a group of one operand is read, with its space
unary_goes : (u : Unary) (n : ℕ) (k : List Need) (r : List ℕ) → Goes (single n k) r (inner n ∷ k) (unary_text u ++ (32 ∷ r))
unary_goes Not n k r = more refl (more refl (over (codes "t ") (single n k) r))
unary_goes Next n k r = more refl (more refl (over (codes "xt ") (single n k) r))
unary_goes Yest n k r = more refl (over (codes "est ") (single n k) r)

-- the word of a group of two operands is read, with its space
joint_goes : (b : Binary) (k : List Need) (r : List ℕ) → Goes k r (joint ∷ k) (binary_text b ++ (32 ∷ r))
joint_goes And k r = more refl (over (codes "nd ") k r)
joint_goes Or k r = more refl (over (codes "r ") k r)
joint_goes Until k r = more refl (over (codes "ntil ") k r)
joint_goes Since k r = more refl (over (codes "ince ") k r)

-- no formula begins with the letter of a word for one operand
leaf_off : (l : Leaf) (r : List ℕ) → Off 110 (leaf_text l ++ r) × Off 121 (leaf_text l ++ r)
leaf_off True r = (λ e. omega arith, λ e. omega arith)
leaf_off False r = (λ e. omega arith, λ e. omega arith)
leaf_off Start r = (λ e. omega arith, λ e. omega arith)
leaf_off End r = (λ e. omega arith, λ e. omega arith)
leaf_off (Symbol v) r = (λ e. omega arith, λ e. omega arith)

-- so a group whose first operand this is has no word for one operand
pub first_off : (f : Tree) (r : List ℕ) → Off 110 (before f r) × Off 121 (before f r)
first_off (leaf l) r = leaf_off l r
first_off (one u f) r = (λ e. omega arith, λ e. omega arith)
first_off (two f b g) r = (λ e. omega arith, λ e. omega arith)

-- a formula is read to its end
pub formula_goes : (f : Tree) (n : ℕ) (k : List Need) (r : List ℕ) → TreeWithin n f → Plain r → Goes k r (form n ∷ k) (before f r)
formula_goes (leaf l) n k r w p = leaf_goes l n k r w p
formula_goes (one u f) zero k r w p = absurd w
formula_goes (one u f) (suc n) k r w p =
    more refl (trans (unary_goes u n k (before f (41 ∷ r))) (trans (formula_goes f n (byte 41 ∷ k) (41 ∷ r) w refl) (over (41 ∷ []) k r)))
formula_goes (two f b g) zero k r w p = absurd w
formula_goes (two f b g) (suc n) k r w p =
    let rest = binary_text b ++ (32 ∷ before g (41 ∷ r)) in
    let off = first_off f (32 ∷ rest) in
    more refl (enter off.0 off.1 (trans (formula_goes f n (pair n k) (32 ∷ rest) w.0 refl) (trans (over (32 ∷ []) (joint ∷ single n k) rest) (trans (joint_goes b (single n k) (before g (41 ∷ r))) (trans (formula_goes g n (byte 41 ∷ k) (41 ∷ r) w.1 refl) (over (41 ∷ []) k r))))))

-- what is within a depth is within a greater one
pub within_le : (f : Tree) (n m : ℕ) → n ≤ m → TreeWithin n f → TreeWithin m f
within_le (leaf l) n m le w = w
within_le (one u f) zero m le w = absurd w
within_le (one u f) (suc n) zero le w = absurd (omega arith)
within_le (one u f) (suc n) (suc m) le w = within_le f n m (omega arith) w
within_le (two f b g) zero m le w = absurd w
within_le (two f b g) (suc n) zero le w = absurd (omega arith)
within_le (two f b g) (suc n) (suc m) le w = (within_le f n m (omega arith) w.0, within_le g n m (omega arith) w.1)

-- whether the bytes lead from a stack to the end
abbrev from : Option (List Need) → (List Need → Bool) → Bool
from None h = false
from (Some m) h = h m

-- whether reading these bytes from a stack ends where a text may end
abbrev pub ends : List ℕ → List Need → Bool
ends [] k = may_end k
ends (b ∷ bs) k = from (step k b) (ends bs)

-- a second digit may be left out where none comes
skip_ends : (bs : List ℕ) (k : List Need) → Plain bs → ends bs (digit ∷ k) ≡ ends bs k
skip_ends [] k p = refl
skip_ends (b ∷ bs) k p = ap (λ o. from o (ends bs)) (cond-false (is_digit b) (Some k) (step k b) p)

-- a group without a word for one operand begins with an operand
enter_ends : (bs : List ℕ) (n : ℕ) (k : List Need) → Off 110 bs → Off 121 bs → ends bs (inner n ∷ k) ≡ ends bs (form n ∷ pair n k)
enter_ends [] n k p q = refl
enter_ends (b ∷ bs) n k p q = ap (λ o. from o (ends bs)) (cond-false (eqb b 110) _ _ (ne_eqb b 110 p) ∙ cond-false (eqb b 121) _ _ (ne_eqb b 121 q))

-- reading on does not change whether the text ends well
pub goes_ends : {k' : List Need} {bs' : List ℕ} {k : List Need} {bs : List ℕ} → Goes k' bs' k bs → ends bs k ≡ ends bs' k'
goes_ends stay = refl
goes_ends (more {k} {m} {b} {bs} e g) = ap (λ o. from o (ends bs)) e ∙ goes_ends g
goes_ends (skip {k} {bs} p g) = skip_ends bs k p ∙ goes_ends g
goes_ends (enter {k} {n} {bs} p q g) = enter_ends bs n k p q ∙ goes_ends g

-- a text does not end well where reading halts
pub halts_ends : (k : List Need) (bs : List ℕ) → Halts k bs → ends bs k ≡ false
halts_ends k [] h = h
halts_ends k (b ∷ bs) h = ap (λ o. from o (ends bs)) h

-- a reading looks no further than the byte where it stops
plain_local : (w : List ℕ) (b : ℕ) (bs x : List ℕ) → Plain (w ++ b ∷ bs) → Plain (w ++ b ∷ x)
plain_local [] b bs x h = h
plain_local (c ∷ w) b bs x h = h

-- which byte comes next does not hang on what follows it
off_local : (n : ℕ) (w : List ℕ) (b : ℕ) (bs x : List ℕ) → Off n (w ++ b ∷ bs) → Off n (w ++ b ∷ x)
off_local n [] b bs x h = h
off_local n (c ∷ w) b bs x h = h

-- reading up to a byte is the same whatever follows that byte
pub goes_local : {k' : List Need} {c : ℕ} {bs' : List ℕ} {k : List Need} {bs : List ℕ} → Goes k' (c ∷ bs') k bs → (w : List ℕ) × (bs ≡ w ++ c ∷ bs') × ((x : List ℕ) → Goes k' (c ∷ x) k (w ++ c ∷ x))
goes_local stay = ([], refl, λ x. stay)
goes_local (more {b = b} e g) = let r = goes_local g in (b ∷ r.0, ap (λ z. b ∷ z) r.1, λ x. more e (r.2 x))
goes_local {c = c} {bs'} (skip p g) = let r = goes_local g in (r.0, r.1, λ x. skip (plain_local r.0 c bs' x (subst Plain r.1 p)) (r.2 x))
goes_local {c = c} {bs'} (enter p q g) = let r = goes_local g in (r.0, r.1, λ x. enter (off_local 110 r.0 c bs' x (subst (Off 110) r.1 p)) (off_local 121 r.0 c bs' x (subst (Off 121) r.1 q)) (r.2 x))
