-- One digit and two. Assumes nothing.
use Rattle.std.proofs.Common.{◌≡◌, ℕ, ◌+◌, ◌-◌, ◌*◌, ◌/◌, ◌%◌, ◌<◌, ◌≤◌, true, ltb, leb, List, [], ◌∷◌, ◌++◌, length, drop, Some, sym, ap, ◌∙◌, subst, arith}
use Rattle.std.proofs.lemmas.Bool.{cond-true, cond-false, and_parts, leb-true, lt-ltb, le-ltb}
use Rattle.text.specs.declared.term.Leaf.TheVariants.{Symbol}
use Rattle.text.specs.Grammar.{decimal}
use Rattle.text.specs.Machine.{digit, is_digit, step, Plain, Goes, stay, more, skip, Comes, Found}

-- a digit is a byte from 48 to 57
pub digit_range : (b : ℕ) → is_digit b ≡ true → (48 ≤ b) × (b ≤ 57)
digit_range b e = let h = and_parts (leb 48 b) (leb b 57) e in (leb-true 48 b h.0, leb-true b 57 h.1)

-- a number below 10 has one digit
pub one_decimal : (n : ℕ) → n < 10 → decimal n ≡ (48 + n) ∷ []
one_decimal n lt = cond-true (ltb n 10) _ _ (lt-ltb n 10 lt)

-- a number of two digits
pub two_decimal : (d e : ℕ) → 0 < d → e < 10 → decimal (d * 10 + e) ≡ (48 + d) ∷ (48 + e) ∷ []
two_decimal d e pos lt =
    let q : (d * 10 + e) / 10 ≡ d = omega arith in
    let r : (d * 10 + e) % 10 ≡ e = omega arith in
    cond-false (ltb (d * 10 + e) 10) _ _ (le-ltb (d * 10 + e) 10 (omega arith)) ∙ (λ i. (48 + q i) ∷ (48 + r i) ∷ [])

module _ (s : List ℕ) (at d : ℕ) (le : at ≤ length s) (is : (0 < d) × (d < 10)) where
  -- a second digit was read
  pub two_digits : (e : ℕ) → Comes s at e → is_digit e ≡ true → Found s (115 ∷ (48 + d) ∷ drop at s) (λ j k. digit ∷ k) at (Symbol (d * 10 + (e - 48))) (at + 1)
  two_digits e h dig =
      let range = digit_range e dig in
      let back : e ≡ 48 + (e - 48) = omega (arith, range.0) in
      record {
        inside = omega (arith, h.0);
        small = omega (arith, range.1);
        text = ap (λ x. 115 ∷ (48 + d) ∷ x) (h.1 ∙ ap (λ b. b ∷ drop (at + 1) s) back) ∙ ap (λ x. 115 ∷ (x ++ drop (at + 1) s)) (sym (two_decimal d (e - 48) is.0 (omega (arith, range.1))));
        goes = λ j k. subst (Goes k (drop (at + 1) s) (digit ∷ k)) (sym h.1) (more (cond-true (is_digit e) (Some k) (step k e) dig) stay);
      }

  -- no second digit comes
  pub one_digit : Plain (drop at s) → Found s (115 ∷ (48 + d) ∷ drop at s) (λ j k. digit ∷ k) at (Symbol d) at
  one_digit plain = record {
    inside = le;
    small = omega arith;
    text = ap (λ x. 115 ∷ (x ++ drop at s)) (sym (one_decimal d is.1));
    goes = λ j k. skip plain stay;
  }
