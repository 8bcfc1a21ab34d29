-- A formula from its parts. Assumes nothing.
use Rattle.std.proofs.Common.{◌≡◌, ℕ, suc, ◌+◌, ◌-◌, List, [], ◌∷◌, ◌++◌, drop, Some, Ok, Err, Result, MatchResult, ap, ◌∙◌, subst, append_assoc, arith}
use Rattle.text.specs.declared.term.Leaf.{Leaf}
use Rattle.text.specs.declared.term.Unary.{Unary}
use Rattle.text.specs.declared.term.Binary.{Binary}
use Rattle.text.specs.declared.refusal.Misreading.{Misreading}
use Rattle.text.specs.declared.refusal.Misreading.TheVariants.{TooDeep}
use Rattle.sheet.specs.declared.row.Row.{Row}
use Rattle.text.specs.Trees.{leaf, one, two, leaf_row, one_row, two_row, unary_text, binary_text, TreeWithin}
use Rattle.text.specs.Drafts.{Drafted, put_row}
use Rattle.text.specs.Machine.{plant}
use Rattle.text.specs.Machine.{Need, byte, form, inner, joint, pair, single, on_open, Off, Goes, stay, enter, Comes, Holds, Passes, Stops, Stands, Found, Spells, before, Misses}
use Rattle.text.proofs.Steps.{Stack, trans, joined, one_step, then_stops, word_goes, word_stops, stops_more}

-- a formula is waited for, with n groups allowed and any further depth
abbrev pub opening : ℕ → Stack
opening n = λ j k. form (n + j) ∷ k

-- the inside of a group is waited for, whose parts may have n groups and any further depth
abbrev pub inside : ℕ → Stack
inside n = λ j k. inner (n + j) ∷ k

-- what was put onto a draft is this row
pub put_is : (was : Drafted) (x y : Row) (now : Drafted) (r : ℕ) → x ≡ y → (now ≡ (put_row was x).0) × (r ≡ (put_row was x).1) → (now ≡ (put_row was y).0) × (r ≡ (put_row was y).1)
put_is was x y now r e (state, number) = (state ∙ ap (λ (z : Row). (put_row was z).0) e, number ∙ ap (λ (z : Row). (put_row was z).1) e)

module _ (s : List ℕ) where
  -- a bracket where no group is allowed any more
  pub deep_here : (at left : ℕ) → Comes s at 40 → left ≡ 0 → Stops s (opening left) at (TooDeep at)
  deep_here at left h e = (h.0, h.1, λ j k. (k, subst (λ n. Goes (form j ∷ k) (drop at s) (form n ∷ k) (drop at s)) (let z : j ≡ left + j = omega arith in z) stay))

  -- a bracket where a group is allowed
  open_step : (left j : ℕ) (k : List Need) → (left ≡ 0 → ⊥) → on_open (left + j) k ≡ Some (inner (left - 1 + j) ∷ k)
  open_step left j k h = let e : left + j ≡ suc (left - 1 + j) = omega arith in ap (λ n. on_open n k) e

  -- a group that is refused is a formula that is refused
  group_stops : (at left : ℕ) (e : Misreading) → Comes s at 40 → (left ≡ 0 → ⊥) → Stops s (inside (left - 1)) (at + 1) e → Stops s (opening left) at e
  group_stops at left e h pos = stops_more s (opening left) (inside (left - 1)) at 40 e h (λ j k. open_step left j k pos)

  -- a group that was read is a formula that was read
  group_stands : (at left q r : ℕ) (was now : Drafted) → Comes s at 40 → (left ≡ 0 → ⊥) → Stands s (40 ∷ drop (at + 1) s) (inside (left - 1)) (at + 1) (suc (left - 1)) q r was now → Stands s (drop at s) (opening left) at left q r was now
  group_stands at left q r was now h pos st =
      let e : suc (left - 1) ≡ left = omega arith in
      record {
        inside = st.inside;
        tree = st.tree;
        within = subst (λ n. TreeWithin n st.tree) e st.within;
        text = h.1 ∙ st.text;
        rows = st.rows;
        last = st.last;
        goes = joined s (opening left) (inside (left - 1)) (λ j k. k) at (at + 1) q (one_step s (opening left) (inside (left - 1)) at 40 h (λ j k. open_step left j k pos)) st.goes;
      }

  -- what comes of a group comes of the formula
  pub group_read : (at left q : ℕ) (was now : Drafted) (r : Result ℕ Misreading) → Comes s at 40 → (left ≡ 0 → ⊥) → MatchResult r (λ n. Stands s (40 ∷ drop (at + 1) s) (inside (left - 1)) (at + 1) (suc (left - 1)) q n was now) (Stops s (inside (left - 1)) (at + 1)) → MatchResult r (λ n. Stands s (drop at s) (opening left) at left q n was now) (Stops s (opening left) at)
  group_read at left q was now (Ok n) h pos g = group_stands at left q n was now h pos g
  group_read at left q was now (Err e) h pos g = group_stops at left e h pos g

  -- a leaf that was read is a formula that was read
  pub leaf_stands : (at left : ℕ) (l : Leaf) (q r : ℕ) (was now : Drafted) → Found s (drop at s) (opening left) at l q → (now ≡ (put_row was (leaf_row l)).0) × (r ≡ (put_row was (leaf_row l)).1) → Stands s (drop at s) (opening left) at left q r was now
  leaf_stands at left l q r was now f p = record {
    inside = f.inside;
    tree = leaf l;
    within = f.small;
    text = f.text;
    rows = p.0;
    last = p.1;
    goes = f.goes;
  }

  -- a group of one operand
  module _ (at left : ℕ) (u : Unary) (p : ℕ) (hd : Spells s (drop at s) (unary_text u ++ 32 ∷ []) (inside left) (λ j k. single (left + j) k) at p) where
    -- its operand is refused
    pub one_stops : (e : Misreading) → Stops s (opening left) p e → Stops s (inside left) at e
    one_stops e = then_stops s (inside left) (opening left) (λ j k. byte 41 ∷ k) at p e hd.goes

    module _ (q r : ℕ) (was mid : Drafted) (a : Stands s (drop p s) (opening left) p left q r was mid) where
      -- reading up to the closing bracket
      abbrev to-close : Passes s (inside left) (λ j k. byte 41 ∷ k) at q
      to-close = λ j k. joined s (inside left) (λ j k. form (left + j) ∷ byte 41 ∷ k) (λ j k. byte 41 ∷ k) at p q hd.goes (λ j k. a.goes j (byte 41 ∷ k)) j k

      -- the closing bracket is missing
      pub one_open : (e : Misreading) → Misses s q (41 ∷ []) e → Stops s (inside left) at e
      one_open e m = then_stops s (inside left) (λ j k. byte 41 ∷ k) (λ j k. k) at q e to-close (word_stops s (41 ∷ []) q e m)

      -- it was read
      pub one_stands : (next r' : ℕ) (now : Drafted) → Holds s q (41 ∷ []) next → (now ≡ (put_row mid (one_row u r)).0) × (r' ≡ (put_row mid (one_row u r)).1) → Stands s (40 ∷ drop at s) (inside left) at (suc left) next r' was now
      one_stands next r' now cl put =
          let f = a.tree in
          record {
            inside = cl.0;
            tree = one u f;
            within = a.within;
            text = ap (λ x. 40 ∷ x) (hd.text ∙ append_assoc (unary_text u) (32 ∷ []) (drop p s) ∙ ap (λ x. unary_text u ++ (32 ∷ x)) (a.text ∙ ap (before f) cl.1));
            rows = put.0 ∙ (λ i. (put_row (a.rows i) (one_row u (a.last i))).0);
            last = put.1 ∙ (λ i. (put_row (a.rows i) (one_row u (a.last i))).1);
            goes = joined s (inside left) (λ j k. byte 41 ∷ k) (λ j k. k) at q next to-close (word_goes s (41 ∷ []) (λ j k. k) q next cl);
          }

  -- a group of two operands
  module _ (at left : ℕ) (off : Off 110 (drop at s) × Off 121 (drop at s)) where
    -- reading begins with the left operand
    first : Passes s (inside left) (λ j k. form (left + j) ∷ pair (left + j) k) at at
    first j k = enter off.0 off.1 stay

    -- its left operand is refused
    pub two_stops : (e : Misreading) → Stops s (opening left) at e → Stops s (inside left) at e
    two_stops e = then_stops s (inside left) (opening left) (λ j k. pair (left + j) k) at at e first

    module _ (q r : ℕ) (was mid : Drafted) (a : Stands s (drop at s) (opening left) at left q r was mid) where
      -- reading up to the space behind the left operand
      to_space : Passes s (inside left) (λ j k. pair (left + j) k) at q
      to_space j k = trans (first j k) (a.goes j (pair (left + j) k))

      -- that space is missing
      pub two_space : (e : Misreading) → Misses s q (32 ∷ []) e → Stops s (inside left) at e
      two_space e m = then_stops s (inside left) (λ j k. byte 32 ∷ k) (λ j k. joint ∷ single (left + j) k) at q e to_space (word_stops s (32 ∷ []) q e m)

      module _ (p : ℕ) (sp : Holds s q (32 ∷ []) p) where
        -- reading up to the word
        to-joint : Passes s (inside left) (λ j k. joint ∷ single (left + j) k) at p
        to-joint j k = trans (to_space j k) (word_goes s (32 ∷ []) (λ j k. joint ∷ single (left + j) k) q p sp j k)

        -- the word is refused
        pub two_joint : (e : Misreading) → Stops s (λ j k. joint ∷ k) p e → Stops s (inside left) at e
        two_joint e = then_stops s (inside left) (λ j k. joint ∷ k) (λ j k. single (left + j) k) at p e to-joint

        module _ (o : Binary) (p' : ℕ) (jt : Spells s (drop p s) (binary_text o ++ 32 ∷ []) (λ j k. joint ∷ k) (λ j k. k) p p') where
          -- reading up to the right operand
          to-second : Passes s (inside left) (λ j k. single (left + j) k) at p'
          to-second j k = trans (to-joint j k) (jt.goes j (single (left + j) k))

          -- the right operand is refused
          pub two_second : (e : Misreading) → Stops s (opening left) p' e → Stops s (inside left) at e
          two_second e = then_stops s (inside left) (opening left) (λ j k. byte 41 ∷ k) at p' e to-second

          module _ (q' r' : ℕ) (mid' : Drafted) (b : Stands s (drop p' s) (opening left) p' left q' r' mid mid') where
            -- reading up to the closing bracket
            to_end : Passes s (inside left) (λ j k. byte 41 ∷ k) at q'
            to_end j k = trans (to-second j k) (b.goes j (byte 41 ∷ k))

            -- the closing bracket is missing
            pub two_open : (e : Misreading) → Misses s q' (41 ∷ []) e → Stops s (inside left) at e
            two_open e m = then_stops s (inside left) (λ j k. byte 41 ∷ k) (λ j k. k) at q' e to_end (word_stops s (41 ∷ []) q' e m)

            -- it was read
            pub two_stands : (next r'' : ℕ) (now : Drafted) → Holds s q' (41 ∷ []) next → (now ≡ (put_row mid' (two_row o r r')).0) × (r'' ≡ (put_row mid' (two_row o r r')).1) → Stands s (40 ∷ drop at s) (inside left) at (suc left) next r'' was now
            two_stands next r'' now cl put =
                let f = a.tree in
                let g = b.tree in
                let state : mid' ≡ (plant g (plant f was).0).0 = b.rows ∙ ap (λ x. (plant g x).0) a.rows in
                let right : r' ≡ (plant g (plant f was).0).1 = b.last ∙ ap (λ x. (plant g x).1) a.rows in
                record {
                  inside = cl.0;
                  tree = two f o g;
                  within = (a.within, b.within);
                  text = ap (λ x. 40 ∷ x) (a.text ∙ ap (before f) (sp.1 ∙ ap (λ x. 32 ∷ x) (jt.text ∙ append_assoc (binary_text o) (32 ∷ []) (drop p' s) ∙ ap (λ x. binary_text o ++ (32 ∷ x)) (b.text ∙ ap (before g) cl.1))));
                  rows = put.0 ∙ (λ i. (put_row (state i) (two_row o (a.last i) (right i))).0);
                  last = put.1 ∙ (λ i. (put_row (state i) (two_row o (a.last i) (right i))).1);
                  goes = joined s (inside left) (λ j k. byte 41 ∷ k) (λ j k. k) at q' next to_end (word_goes s (41 ∷ []) (λ j k. k) q' next cl);
                }
