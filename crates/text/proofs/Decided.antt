-- What is refused, and where, is settled by the text. Assumes nothing.
use Rattle.std.proofs.Common.{◌≡◌, ℕ, suc, ◌+◌, ◌<◌, ◌≤◌, List, ◌++◌, length, take, drop, sym, ap, ◌∙◌, subst, ⊎_elim, append_assoc, arith}
use Rattle.std.proofs.lemmas.List.{take-append-drop, take-take}
use Rattle.std.proofs.lemmas.Bool.{cases_lt, cases_order}
use Rattle.text.specs.declared.refusal.Misreading.{Misreading}
use Rattle.text.specs.declared.refusal.Misreading.TheVariants.{BadText, TooDeep}
use Rattle.text.specs.Grammar.{RuleFormulas, Says, Viable, Refused}
use Rattle.text.specs.Laws.{Decided, EarlierDecides}

-- the front of a rule text begins one
viable_says : (d : ℕ) (r : RuleFormulas) (bs : List ℕ) (n : ℕ) → Says d r bs → Viable d (take n bs)
viable_says d r bs n h = record { rule = r; rest = drop n bs; says = subst (Says d r) (sym (take-append-drop n bs)) h }

-- so does the front of what begins one
viable_less : (d : ℕ) (bs : List ℕ) (n m : ℕ) → n ≤ m → Viable d (take m bs) → Viable d (take n bs)
viable_less d bs n m le v =
    let t = take m bs in
    let front : take n bs ++ drop n t ≡ t = ap (λ z. z ++ drop n t) (sym (take-take n m bs le)) ∙ take-append-drop n t in
    record { rule = v.rule; rest = drop n t ++ v.rest; says = subst (Says d v.rule) (ap (λ z. z ++ v.rest) (sym front) ∙ append_assoc (take n bs) (drop n t) v.rest) v.says }

-- the bytes before p begin a rule text at most d deep, and with the byte at p, or at the end, they are none
record Stuck (d : ℕ) (bs : List ℕ) (p : ℕ) : Type 0 where
  inside : p ≤ length bs
  good : Viable d (take p bs)
  no_more : p < length bs → Viable d (take (p + 1) bs) → ⊥
  unended : p ≡ length bs → (r : RuleFormulas) → Says d r bs → ⊥

-- the byte that a refusal names
abbrev named : Misreading → ℕ
named (BadText p) = p
named (TooDeep p) = p

-- a refused text is stuck at the byte that is named
stuck : (d : ℕ) (bs : List ℕ) (e : Misreading) → Refused d bs e → Stuck d bs (named e)
stuck d bs (BadText p) (h, v) = record { inside = h.inside; good = v; no_more = h.with_it d; unended = λ at r. h.at_the_end d r at }
stuck d bs (TooDeep p) h = let lt = h.inside in record { inside = omega arith; good = h.before; no_more = λ _. h.with_it; unended = λ at. absurd (omega arith) }

-- a text that is stuck is no rule text
not_said : (d : ℕ) (bs : List ℕ) (p : ℕ) → Stuck d bs p → (r : RuleFormulas) → Says d r bs → ⊥
not_said d bs p s r h = ⊎_elim (λ lt. s.no_more lt (viable_says d r bs (p + 1) h)) (λ le. s.unended (omega (arith, s.inside)) r h) (cases_lt p (length bs))

-- a text is not stuck at an earlier place too
not_before : (d : ℕ) (bs : List ℕ) (p q : ℕ) → Stuck d bs p → Stuck d bs q → p < q → ⊥
not_before d bs p q s t lt = s.no_more (omega (arith, t.inside)) (viable_less d bs (p + 1) q (omega arith) t.good)

-- a text is stuck at one place
one_place : (d : ℕ) (bs : List ℕ) (p q : ℕ) → Stuck d bs p → Stuck d bs q → p ≡ q
one_place d bs p q s t = ⊎_elim (λ e. e) (⊎_elim (λ lt. absurd (not_before d bs p q s t lt)) (λ lt. absurd (not_before d bs q p t s lt))) (cases_order p q)

-- a bracket that is too deep comes before the place of a bad text
pub earlier_decides : EarlierDecides
earlier_decides d bs p q deep bad = ⊎_elim (λ lt. lt) (λ le. absurd (no le)) (cases_lt p q)
  where
    no : q ≤ p → ⊥
    no le = let lt = deep.inside in bad.with_it (suc d) (omega arith) (viable_less (suc d) bs (q + 1) (p + 1) (omega arith) deep.deeper)

-- a place is not that of both refusals
clash : (d : ℕ) (bs : List ℕ) (p q : ℕ) → p ≡ q → Refused d bs (BadText p) → Refused d bs (TooDeep q) → ⊥
clash d bs p q e h k = let lt = earlier_decides d bs q p k h.0 in omega arith

-- a text is refused in one way at most
one_refusal : (d : ℕ) (bs : List ℕ) (e f : Misreading) → Refused d bs e → Refused d bs f → e ≡ f
one_refusal d bs (BadText a) (BadText b) h k = ap BadText (one_place d bs a b (stuck d bs (BadText a) h) (stuck d bs (BadText b) k))
one_refusal d bs (BadText a) (TooDeep b) h k = absurd (clash d bs a b (one_place d bs a b (stuck d bs (BadText a) h) (stuck d bs (TooDeep b) k)) h k)
one_refusal d bs (TooDeep a) (BadText b) h k = absurd (clash d bs b a (one_place d bs b a (stuck d bs (BadText b) k) (stuck d bs (TooDeep a) h)) k h)
one_refusal d bs (TooDeep a) (TooDeep b) h k = ap TooDeep (one_place d bs a b (stuck d bs (TooDeep a) h) (stuck d bs (TooDeep b) k))

-- a rule text is not refused, and any other text in one way at most
pub decided : Decided
decided d bs e h = (not_said d bs (named e) (stuck d bs e h), λ f k. one_refusal d bs e f h k)
