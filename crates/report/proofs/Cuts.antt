-- The lines of a text, as the parts between its newlines.
use Rattle.std.proofs.Common.{◌≡◌, ℕ, suc, ◌-◌, ◌<◌, Bool, true, false, cond, eqb, List, [], ◌∷◌, length, get_or, take, sym, refl, ap, ◌∙◌, arith}
use Rattle.std.specs.List.{slice_split, onto_first}
use Rattle.std.proofs.lemmas.List.Splits.{slice_split-cons_yes, slice_split-cons_no}
use Rattle.report.specs.Rules.{bare, onto, lines}

-- the test that a byte is a newline
abbrev pub newline : ℕ → Bool
newline b = eqb b 10

-- a byte in front of the first line, in the library's words
onto_is : (b : ℕ) (ls : List (List ℕ)) → onto b ls ≡ onto_first b ls
onto_is b [] = refl
onto_is b (l ∷ ls) = refl

-- a byte in front of one of two lists
in_front : (b : ℕ) (v : Bool) (xs ys : List ℕ) → cond v (b ∷ xs) (b ∷ ys) ≡ b ∷ cond v xs ys
in_front b true xs ys = refl
in_front b false xs ys = refl

-- the newline at the end of a longer text is that of its rest
bare_cons : (b c : ℕ) (cs : List ℕ) → bare (b ∷ c ∷ cs) ≡ b ∷ bare (c ∷ cs)
bare_cons b c cs =
    let last : length (b ∷ c ∷ cs) - 1 ≡ suc (length (c ∷ cs) - 1) = omega arith in
    (λ i. cond (eqb (get_or (b ∷ c ∷ cs) (last i) 0) 10) (take (last i) (b ∷ c ∷ cs)) (b ∷ c ∷ cs))
    ∙ in_front b (eqb (get_or (c ∷ cs) (length (c ∷ cs) - 1) 0) 10) (take (length (c ∷ cs) - 1) (c ∷ cs)) (c ∷ cs)

-- one byte
single : (b : ℕ) (v : Bool) → eqb b 10 ≡ v → cond v ([] ∷ []) ((b ∷ []) ∷ []) ≡ slice_split newline (cond v [] (b ∷ []))
single b true e = refl
single b false e = sym (slice_split-cons_no newline b [] e)

-- one byte more
longer : (b : ℕ) (ls : List (List ℕ)) (xs : List ℕ) (v : Bool) → eqb b 10 ≡ v → ls ≡ slice_split newline xs → cond v ([] ∷ ls) (onto b ls) ≡ slice_split newline (b ∷ xs)
longer b ls xs true e h = ap (λ (l : List (List ℕ)). [] ∷ l) h ∙ sym (slice_split-cons_yes newline b xs e)
longer b ls xs false e h = onto_is b ls ∙ ap (onto_first b) h ∙ sym (slice_split-cons_no newline b xs e)

lines_cons : (b : ℕ) (bs : List ℕ) → lines (b ∷ bs) ≡ slice_split newline (bare (b ∷ bs))
lines_cons b [] = single b (eqb b 10) refl
lines_cons b (c ∷ cs) = longer b (lines (c ∷ cs)) (bare (c ∷ cs)) (eqb b 10) refl (lines_cons c cs) ∙ ap (slice_split newline) (sym (bare_cons b c cs))

-- the lines of a text that is not empty are the parts of what comes before the newline at its end
pub lines_of : (bs : List ℕ) → 0 < length bs → lines bs ≡ slice_split newline (bare bs)
lines_of [] h = absurd (omega arith)
lines_of (b ∷ bs) h = lines_cons b bs
