-- How the parts of a reading join. Assumes nothing.
use Rattle.std.proofs.Common.{◌≡◌, ℕ, ◌+◌, ◌<◌, ◌≤◌, true, false, cond, eqb, List, [], ◌∷◌, ◌++◌, length, get_or, take, drop, Some, None, Ok, Err, Result, MatchResult, sym, refl, ap, ◌∙◌, subst, arith}
use Rattle.std.proofs.lemmas.Bool.{cond-true, cond-false, eq-eqb, ne_eqb}
use Rattle.std.proofs.lemmas.Result.{err_from_is_err_and}
use Rattle.std.specs.Result.{result_and, IsErrAnd}
use Rattle.std.proofs.lemmas.List.{drop_more, take-append-drop}
use Rattle.text.specs.declared.refusal.Misreading.{Misreading}
use Rattle.text.specs.declared.refusal.Misreading.TheVariants.{BadText, TooDeep}
use Rattle.text.specs.declared.term.Leaf.{Leaf}
use Rattle.text.specs.Trees.{leaf_text, Small}
use Rattle.text.specs.Machine.{Need, byte, digit, bytes, on_form, on_s, on_n, on_joint, is_digit, step, may_end, Off, Goes, stay, more, skip, enter, Halts, Comes, Holds, Passes, Stops, Misses, Found, Spells}

-- what is waited for, given a further depth and what comes after
abbrev pub Stack : Type 0
Stack = ℕ → List Need → List Need

-- a refusal that is passed on
pub passed_on : {T : Type 0} (P : T → Type 0) (Q : Misreading → Type 0) (r : Result T Misreading) (e : Misreading) → IsErrAnd r (λ y. y ≡ e) → Q e → MatchResult r P Q
passed_on P Q r e h q = let p = err_from_is_err_and r h in rw (p.1, p.2) q

-- reading on in two parts
pub trans : {m k' : List Need} {bs' bs'' : List ℕ} {k : List Need} {bs : List ℕ} → Goes m bs' k bs → Goes k' bs'' m bs' → Goes k' bs'' k bs
trans stay h = h
trans (more e g) h = more e (trans g h)
trans (skip p g) h = skip p (trans g h)
trans (enter p q g) h = enter p q (trans g h)

-- the byte that is waited for comes
on_byte : (c : ℕ) (k : List Need) → step (byte c ∷ k) c ≡ Some k
on_byte c k = cond-true (eqb c c) (Some k) None (eq-eqb c c refl)

-- a word that is waited for comes
pub over : (w : List ℕ) (k : List Need) (bs : List ℕ) → Goes k bs (bytes w k) (w ++ bs)
over [] k bs = stay
over (c ∷ w) k bs = more (on_byte c (bytes w k)) (over w k bs)

-- the front of such a word comes
over_front : (u : List ℕ) (c : ℕ) (v : List ℕ) (k : List Need) (bs : List ℕ) → Goes (byte c ∷ bytes v k) bs (bytes (u ++ c ∷ v) k) (u ++ bs)
over_front [] c v k bs = stay
over_front (d ∷ u) c v k bs = more (on_byte d _) (over_front u c v k bs)

-- reading halts where another byte than the one waited for comes
off_halts : (c : ℕ) (k : List Need) (bs : List ℕ) → Off c bs → Halts (byte c ∷ k) bs
off_halts c k [] o = refl
off_halts c k (b ∷ bs) o = cond-false (eqb b c) (Some k) None (ne_eqb b c o)

module _ (s : List ℕ) where
  -- a refusal behind a part that was read
  pub after : (pre mid : Stack) (p q : ℕ) (e : Misreading) → Passes s pre mid p q → Stops s mid q e → Stops s pre p e
  after pre mid p q (BadText r) g (le, h) = (le, λ j k. ((h j k).0, trans (g j k) (h j k).1, (h j k).2))
  after pre mid p q (TooDeep r) g (lt, is, h) = (lt, is, λ j k. ((h j k).0, trans (g j k) (h j k).1))

  -- a refusal of the front is one of the whole
  pub framed : (front rest : Stack) (q : ℕ) (e : Misreading) → Stops s front q e → Stops s (λ j k. front j (rest j k)) q e
  framed front rest q (BadText r) (le, h) = (le, λ j k. h j (rest j k))
  framed front rest q (TooDeep r) (lt, is, h) = (lt, is, λ j k. h j (rest j k))

  -- a refusal behind a part that was read, in front of more
  pub then_stops : (pre front rest : Stack) (p q : ℕ) (e : Misreading) → Passes s pre (λ j k. front j (rest j k)) p q → Stops s front q e → Stops s pre p e
  then_stops pre front rest p q e g h = after pre (λ j k. front j (rest j k)) p q e g (framed front rest q e h)

  -- reading on from p to q, and from q to r
  pub joined : (pre mid post : Stack) (p q r : ℕ) → Passes s pre mid p q → Passes s mid post q r → Passes s pre post p r
  joined pre mid post p q r g h j k = trans (g j k) (h j k)

  -- reading halts here
  pub here : (pre : Stack) (p : ℕ) → p ≤ length s → ((j : ℕ) (k : List Need) → Halts (pre j k) (drop p s)) → Stops s pre p (BadText p)
  here pre p le h = (le, λ j k. (pre j k, stay, h j k))

  -- reading halts at the end of the text
  pub here_none : (pre : Stack) (p : ℕ) → p ≤ length s → drop p s ≡ [] → ((j : ℕ) (k : List Need) → may_end (pre j k) ≡ false) → Stops s pre p (BadText p)
  here_none pre p le e h = here pre p le (λ j k. subst (Halts (pre j k)) (sym e) (h j k))

  -- reading halts at a byte that cannot come
  pub here_some : (pre : Stack) (p b : ℕ) → Comes s p b → ((j : ℕ) (k : List Need) → step (pre j k) b ≡ None) → Stops s pre p (BadText p)
  here_some pre p b e h = here pre p (omega (arith, e.0)) (λ j k. subst (Halts (pre j k)) (sym e.1) (h j k))

  -- one byte is read
  pub one_step : (pre post : Stack) (p b : ℕ) → Comes s p b → ((j : ℕ) (k : List Need) → step (pre j k) b ≡ Some (post j k)) → Passes s pre post p (p + 1)
  one_step pre post p b e f j k = subst (Goes (post j k) (drop (p + 1) s) (pre j k)) (sym e.1) (more (f j k) stay)

  -- a word is read
  pub word_goes : (w : List ℕ) (post : Stack) (p q : ℕ) → Holds s p w q → Passes s (λ j k. bytes w (post j k)) post p q
  word_goes w post p q e j k = subst (Goes (post j k) (drop q s) (bytes w (post j k))) (sym e.1) (over w (post j k) (drop q s))

  -- a word is refused
  pub word_stops : (w : List ℕ) (p : ℕ) (e : Misreading) → Misses s p w e → Stops s (λ j k. bytes w k) p e
  word_stops w p (BadText q) (le, (u, c, v, is, front, off)) = (le, λ j k. (byte c ∷ bytes v k, subst (λ x. Goes (byte c ∷ bytes v k) (drop q s) (bytes x k) (drop p s)) (sym is) (subst (Goes (byte c ∷ bytes v k) (drop q s) (bytes (u ++ c ∷ v) k)) (sym front) (over_front u c v k (drop q s))), off_halts c (bytes v k) (drop q s) off))
  word_stops w p (TooDeep q) m = absurd m

  -- a word by its first byte and its rest
  pub spelled : (pre post : Stack) (p b : ℕ) (w : List ℕ) (q : ℕ) → Comes s p b → ((j : ℕ) (k : List Need) → step (pre j k) b ≡ Some (bytes w (post j k))) → Holds s p (b ∷ w) q → Spells s (drop p s) (b ∷ w) pre post p q
  spelled pre post p b w q h st o = record {
    inside = o.0;
    text = o.1;
    goes = joined pre (λ j k. bytes w (post j k)) post p (p + 1) q (one_step pre (λ j k. bytes w (post j k)) p b h st) (word_goes w post (p + 1) q (o.0, let e : b ∷ drop (p + 1) s ≡ b ∷ (w ++ drop q s) = sym h.1 ∙ o.1 in cc));
  }

  -- a word differs behind its first byte, where that stands there
  behind : (p b : ℕ) (w u : List ℕ) (c : ℕ) (v : List ℕ) (q : ℕ) → Comes s p b → b ∷ w ≡ u ++ c ∷ v → drop p s ≡ u ++ drop q s → Off c (drop q s) → (x : List ℕ) × (w ≡ x ++ c ∷ v) × (drop (p + 1) s ≡ x ++ drop q s)
  behind p b w [] c v q h is front off =
      let e : b ≡ c = cc in
      absurd (subst (Off c) (sym front ∙ h.1) off e)
  behind p b w (d ∷ u) c v q h is front off =
      let e : b ∷ drop (p + 1) s ≡ d ∷ (u ++ drop q s) = sym h.1 ∙ front in
      (u, cc, cc)

  -- a word whose first byte stands there, and which is refused
  pub unspelled : (pre post : Stack) (p b : ℕ) (w : List ℕ) (e : Misreading) → Comes s p b → ((j : ℕ) (k : List Need) → step (pre j k) b ≡ Some (bytes w (post j k))) → Misses s p (b ∷ w) e → Stops s pre p e
  unspelled pre post p b w (BadText q) h st (le, (u, c, v, is, front, off)) =
      let x = behind p b w u c v q h is front off in
      then_stops pre (λ j k. bytes w k) post p (p + 1) (BadText q) (one_step pre (λ j k. bytes w (post j k)) p b h st) (word_stops w (p + 1) (BadText q) (le, (x.0, c, v, x.1, x.2, off)))
  unspelled pre post p b w (TooDeep q) h st o = absurd o

  -- a word that is read, or refused, where its first byte stands there
  pub word_arm : {T : Type 0} (P : T → Type 0) (pre post : Stack) (p b : ℕ) (w : List ℕ) (q : ℕ) (t : T) (r : Result (Unit {0}) Misreading) (x : Result T Misreading) → x ≡ result_and r (Ok t) → Comes s p b → ((j : ℕ) (k : List Need) → step (pre j k) b ≡ Some (bytes w (post j k))) → (Spells s (drop p s) (b ∷ w) pre post p q → P t) → MatchResult r (λ _. Holds s p (b ∷ w) q) (Misses s p (b ∷ w)) → MatchResult x P (Stops s pre p)
  word_arm P pre post p b w q t (Ok u) x is h st f o = subst (λ y. MatchResult y P (Stops s pre p)) (sym is) (f (spelled pre post p b w q h st o))
  word_arm P pre post p b w q t (Err e) x is h st f o = subst (λ y. MatchResult y P (Stops s pre p)) (sym is) (unspelled pre post p b w e h st o)

  -- the byte at p is c
  pub at_byte : (p b c : ℕ) → Comes s p b → b ≡ c → Comes s p c
  at_byte p b c h e = (h.0, h.1 ∙ ap (λ x. x ∷ drop (p + 1) s) e)

  -- a leaf that is one word
  pub found_word : (bs : List ℕ) (pre : Stack) (p : ℕ) (l : Leaf) (q : ℕ) → Small l → Spells s bs (leaf_text l) pre (λ j k. k) p q → Found s bs pre p l q
  found_word bs pre p l q small h = record { inside = h.inside; small = small; text = h.text; goes = h.goes }

  -- one byte in front of what a callee read
  pub found_more : (pre mid : Stack) (p b : ℕ) (l : Leaf) (q : ℕ) → Comes s p b → ((j : ℕ) (k : List Need) → step (pre j k) b ≡ Some (mid j k)) → Found s (b ∷ drop (p + 1) s) mid (p + 1) l q → Found s (drop p s) pre p l q
  found_more pre mid p b l q h st f = record {
    inside = f.inside;
    small = f.small;
    text = h.1 ∙ f.text;
    goes = joined pre mid (λ j k. k) p (p + 1) q (one_step pre mid p b h st) f.goes;
  }

  -- and what a callee refused
  pub stops_more : (pre mid : Stack) (p b : ℕ) (e : Misreading) → Comes s p b → ((j : ℕ) (k : List Need) → step (pre j k) b ≡ Some (mid j k)) → Stops s mid (p + 1) e → Stops s pre p e
  stops_more pre mid p b e h st f = after pre mid p (p + 1) e (one_step pre mid p b h st) f

  -- and a word that a callee read
  pub spells_more : (pre mid post : Stack) (p b : ℕ) (w : List ℕ) (q : ℕ) → Comes s p b → ((j : ℕ) (k : List Need) → step (pre j k) b ≡ Some (mid j k)) → Spells s (b ∷ drop (p + 1) s) w mid post (p + 1) q → Spells s (drop p s) w pre post p q
  spells_more pre mid post p b w q h st f = record {
    inside = f.inside;
    text = h.1 ∙ f.text;
    goes = joined pre mid post p (p + 1) q (one_step pre mid p b h st) f.goes;
  }

-- the same with an `n` in front
pub n_front : (s bs w : List ℕ) (pre post : Stack) (p : ℕ) {q : ℕ} → Spells s bs w pre post p q → Spells s (110 ∷ bs) (110 ∷ w) pre post p q
n_front s bs w pre post p h = record { inside = h.inside; text = ap (λ x. 110 ∷ x) h.text; goes = h.goes }

-- a word differs behind its first i bytes, which stand there
pub word_miss : (s w : List ℕ) (at q i : ℕ) → Holds s at (take i w) q → i < length w → Off (get_or w i 0) (drop q s) → Misses s at w (BadText q)
word_miss s w at q i front lt off = (front.0, (take i w, get_or w i 0, drop (i + 1) w, sym (take-append-drop i w) ∙ ap (λ x. take i w ++ x) (drop_more w i 0 lt), front.1, off))

-- so the byte there is not c
pub off_byte : (s : List ℕ) (c p b : ℕ) → Off c (drop p s) → Comes s p b → b ≡ c → ⊥
off_byte s c p b off h = subst (Off c) h.1 off

-- what cannot come
no_test : {A : Type 0} (b c : ℕ) (x y : A) → (b ≡ c → ⊥) → cond (eqb b c) x y ≡ y
no_test b c x y h = cond-false (eqb b c) x y (ne_eqb b c h)

-- a byte that begins no formula
pub form_none : (n : ℕ) (k : List Need) (b : ℕ) → (b ≡ 40 → ⊥) → (b ≡ 116 → ⊥) → (b ≡ 102 → ⊥) → (b ≡ 101 → ⊥) → (b ≡ 115 → ⊥) → on_form n k b ≡ None
form_none n k b h0 h1 h2 h3 h4 = no_test b 40 _ _ h0 ∙ no_test b 116 _ _ h1 ∙ no_test b 102 _ _ h2 ∙ no_test b 101 _ _ h3 ∙ no_test b 115 _ _ h4

-- a byte that begins no word of two operands
pub joint_none : (k : List Need) (b : ℕ) → (b ≡ 97 → ⊥) → (b ≡ 111 → ⊥) → (b ≡ 117 → ⊥) → (b ≡ 115 → ⊥) → on_joint k b ≡ None
joint_none k b h0 h1 h2 h3 = no_test b 97 _ _ h0 ∙ no_test b 111 _ _ h1 ∙ no_test b 117 _ _ h2 ∙ no_test b 115 _ _ h3

-- a byte that cannot follow the `n` of a group
pub n_none : (n : ℕ) (k : List Need) (b : ℕ) → (b ≡ 111 → ⊥) → (b ≡ 101 → ⊥) → on_n n k b ≡ None
n_none n k b h0 h1 = no_test b 111 _ _ h0 ∙ no_test b 101 _ _ h1

-- a byte that cannot follow an `s`
pub s_none : (k : List Need) (b : ℕ) → (b ≡ 116 → ⊥) → (b ≡ 48 → ⊥) → is_digit b ≡ false → on_s k b ≡ None
s_none k b h0 h1 d = no_test b 116 _ _ h0 ∙ no_test b 48 _ _ h1 ∙ cond-false (is_digit b) _ _ d

-- a digit other than 0 behind an `s`
pub s_digit : (k : List Need) (b : ℕ) → (b ≡ 116 → ⊥) → (b ≡ 48 → ⊥) → is_digit b ≡ true → on_s k b ≡ Some (digit ∷ k)
s_digit k b h0 h1 d = no_test b 116 _ _ h0 ∙ no_test b 48 _ _ h1 ∙ cond-true (is_digit b) _ _ d
