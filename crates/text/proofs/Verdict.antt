-- What the readings of a whole text come to, in the words of the grammar. Assumes nothing.
use Rattle.std.proofs.Common.{◌≡◌, ℕ, ◌+◌, ◌<◌, ◌≤◌, true, List, [], ◌∷◌, ◌++◌, length, get_or, take, drop, codes, sym, refl, ap, ◌∙◌, subst, append_assoc, append-nil, arith}
use Rattle.std.proofs.lemmas.List.{append_cancel_right, take-append-drop, take_more, drop_more, drop_all}
use Rattle.std.proofs.lemmas.Bool.{both_ways}
use Rattle.sheet.specs.declared.row.Rule.{Rule}
use Rattle.text.specs.declared.refusal.Misreading.{Misreading}
use Rattle.text.specs.declared.refusal.Misreading.TheVariants.{BadText, TooDeep}
use Rattle.text.specs.Grammar.{RuleFormulas, Says, Viable, Refused, opened, Within, written}
use Rattle.text.specs.Trees.{meant}
use Rattle.text.specs.Drafts.{Drafted}
use Rattle.text.specs.Machine.{Need, form, inner, bytes, Goes, stay, more, Halts, Passes, Stops, Stands, Misses, before, step, plant, Plants}
use Rattle.text.proofs.Shapes.{shaped, meant_shaped, within_up, within_down}
use Rattle.text.proofs.Steps.{trans, over, framed, then_stops, word_stops, word_goes}
use Rattle.text.proofs.Groups.{opening}
use Rattle.text.proofs.Language.{Fits, fits_bytes, goes_sound, filled}
use Rattle.text.proofs.Levels.{weight, even_bytes, goes_kept}
use Rattle.text.proofs.Complete.{before_written, formula_goes, within_le, ends, goes_ends, halts_ends, goes_local}

-- what stands between activator and target
abbrev arrow : List ℕ
arrow = codes " => "

-- what a rule text is, at most d deep
abbrev stack : ℕ → List Need
stack d = form d ∷ bytes arrow (form d ∷ [])

-- what a rule's stack can be followed by is a rule text
fits_rule : (d : ℕ) (x : List ℕ) → Fits (stack d) x → (r : RuleFormulas) × Says d r x
fits_rule d x (f, y, wf, e, h) =
    let r = fits_bytes arrow (form d ∷ []) y h in
    let g = r.2.0 in
    let right : r.0 ≡ written (meant g) = r.2.3 ∙ ap (before g) r.2.4 ∙ before_written g [] ∙ append-nil (written (meant g)) in
    (record { activator = meant f; target = meant g }, record { is = sym (e ∙ before_written f y ∙ ap (λ z. written (meant f) ++ z) (r.1 ∙ ap (λ z. arrow ++ z) right)); left = within_up f d wf; right = within_up g d r.2.2 })

-- the bytes before a place that reading comes to begin a rule text
viable_from : (d : ℕ) (s : List ℕ) (q : ℕ) (m : List Need) → Goes m (drop q s) (stack d) s → Viable d (take q s)
viable_from d s q m g =
    let r = goes_sound g in
    let x = filled m in
    let same : r.0 ≡ take q s = append_cancel_right r.0 (take q s) (drop q s) (sym r.1 ∙ sym (take-append-drop q s)) in
    let v = fits_rule d (r.0 ++ x.0) (r.2 x.0 x.1) in
    record { rule = v.0; rest = x.0; says = subst (λ z. Says d v.0 (z ++ x.0)) same v.1 }

-- a rule text is read to its end
says_ends : (e d : ℕ) (r : RuleFormulas) (bs : List ℕ) → e ≤ d → Says e r bs → ends bs (stack d) ≡ true
says_ends e d r bs le h =
    let f = shaped r.activator in
    let g = shaped r.target in
    let wf = within_down f e (subst (Within e) (sym (meant_shaped r.activator)) h.left) in
    let wg = within_down g e (subst (Within e) (sym (meant_shaped r.target)) h.right) in
    let path = trans (formula_goes f d (bytes arrow (form d ∷ [])) (arrow ++ before g []) (within_le f e d le wf) refl) (trans (over arrow (form d ∷ []) (before g [])) (formula_goes g d [] [] (within_le g e d le wg) tt)) in
    let whole : before f (arrow ++ before g []) ≡ written (meant f) ++ (arrow ++ written (meant g)) = before_written f (arrow ++ before g []) ∙ ap (λ z. written (meant f) ++ (arrow ++ z)) (before_written g [] ∙ append-nil (written (meant g))) in
    let same : before f (arrow ++ before g []) ≡ bs = whole ∙ (λ i. written (meant_shaped r.activator i) ++ (arrow ++ written (meant_shaped r.target i))) ∙ h.is in
    sym (ap (λ z. ends z (stack d)) same) ∙ goes_ends path

-- where reading halts at a byte, no rule text goes on with it
not_viable : (d e : ℕ) (s : List ℕ) (p : ℕ) (m : List Need) → e ≤ d → p < length s → Goes m (drop p s) (stack d) s → Halts m (drop p s) → Viable e (take (p + 1) s) → ⊥
not_viable d e s p m le lt g h v =
    let c = get_or s p 0 in
    let here = drop_more s p 0 lt in
    let r = goes_local (subst (λ z. Goes m z (stack d) s) here g) in
    let stuck : step m c ≡ _ = subst (Halts m) here h in
    let x = v.rest in
    let same : r.0 ≡ take p s = append_cancel_right r.0 (take p s) (c ∷ drop (p + 1) s) (sym r.1 ∙ sym (ap (λ z. take p s ++ z) (sym here) ∙ take-append-drop p s)) in
    let whole : take (p + 1) s ++ x ≡ r.0 ++ c ∷ x = ap (λ z. z ++ x) (take_more s p 0 lt) ∙ append_assoc (take p s) (c ∷ []) x ∙ ap (λ z. z ++ c ∷ x) (sym same) in
    both_ways (ends (r.0 ++ c ∷ x) (stack d)) (goes_ends (r.2 x) ∙ halts_ends m (c ∷ x) stuck) (says_ends e d v.rule (r.0 ++ c ∷ x) le (subst (Says e v.rule) whole v.says))

-- where a whole text stops
abbrev whole_rule : ℕ → List Need → List Need
whole_rule = λ j k. form (16 + j) ∷ bytes arrow (form (16 + j) ∷ k)

-- reading that halts at every depth tells a bad text
bad_refused : (s : List ℕ) (p : ℕ) → p ≤ length s → ((j : ℕ) → (m : List Need) × Goes m (drop p s) (stack (16 + j)) s × Halts m (drop p s)) → Refused 16 s (BadText p)
bad_refused s p le h =
    let here = viable_from 16 s p (h 0).0 (h 0).1 in (
      record {
        inside = le;
        depth = 16;
        before = here;
        with_it = λ e lt v. not_viable (16 + e) e s p (h e).0 (omega arith) lt (h e).1 (h e).2 v;
        at_the_end = λ e r at says. both_ways (ends s (stack (16 + e))) (goes_ends (h e).1 ∙ halts_ends (h e).0 (drop p s) (h e).2) (says_ends e (16 + e) r s (omega arith) says);
      },
      here,
    )

-- the bracket at p
bracket_at : (s : List ℕ) (p : ℕ) → p < length s → drop p s ≡ 40 ∷ drop (p + 1) s → get_or s p 0 ≡ 40
bracket_at s p lt is = ap (λ l. get_or l 0 0) (sym (drop_more s p 0 lt) ∙ is)

-- a bracket that no depth is left for stands behind 16 open groups
level_at : (s : List ℕ) (p : ℕ) (m : List Need) → Goes (form 0 ∷ m) (drop p s) (stack 16) s → opened 0 (take p s) ≡ 16
level_at s p m g =
    let target = even_bytes 16 arrow (form 16 ∷ []) refl (refl, tt) in
    let r = goes_kept 16 g (refl, target.0) in
    let same : r.0 ≡ take p s = append_cancel_right r.0 (take p s) (drop p s) (sym r.1 ∙ sym (take-append-drop p s)) in
    let open-now : opened 0 r.0 ≡ weight m = r.3 in
    let all : 0 + weight m ≡ 16 = r.2.0 in
    ap (opened 0) (sym same) ∙ open-now ∙ (let z : weight m ≡ 16 = omega arith in z)

-- where reading stops, the text is refused
pub refused : (s : List ℕ) (e : Misreading) → Stops s whole_rule 0 e → Refused 16 s e
refused s (BadText p) (le, h) = bad_refused s p le (λ j. h j [])
refused s (TooDeep p) (lt, is, h) =
    let flat = h 0 [] in
    let deep = h 1 [] in
    record {
      inside = lt;
      bracket = bracket_at s p lt is;
      level = level_at s p flat.0 flat.1;
      before = viable_from 16 s p (form 0 ∷ flat.0) flat.1;
      with_it = λ v. not_viable 16 16 s p (form 0 ∷ flat.0) (omega arith) lt flat.1 (subst (Halts (form 0 ∷ flat.0)) (sym is) refl) v;
      deeper = viable_from 17 s (p + 1) (inner 0 ∷ deep.0) (trans deep.1 (subst (Goes (inner 0 ∷ deep.0) (drop (p + 1) s) (form 1 ∷ deep.0)) (sym is) (more refl stay)));
    }

-- the reading of a whole text
module _ (s : List ℕ) where
  -- the activator is refused
  pub first_refused : (e : Misreading) → Stops s (opening 16) 0 e → Refused 16 s e
  first_refused e h = refused s e (framed s (opening 16) (λ j k. bytes arrow (form (16 + j) ∷ k)) 0 e h)

  module _ (q r : ℕ) (was mid : Drafted) (a : Stands s s (opening 16) 0 16 q r was mid) where
    -- reading up to the arrow
    to-arrow : Passes s whole_rule (λ j k. bytes arrow (form (16 + j) ∷ k)) 0 q
    to-arrow j k = a.goes j (bytes arrow (form (16 + j) ∷ k))

    -- the arrow is refused
    pub arrow_refused : (e : Misreading) → Misses s q arrow e → Refused 16 s e
    arrow_refused e m = refused s e (then_stops s whole_rule (λ j k. bytes arrow k) (opening 16) 0 q e to-arrow (word_stops s arrow q e m))

    module _ (p : ℕ) (ar : (p ≤ length s) × (drop q s ≡ arrow ++ drop p s)) where
      -- reading up to the target
      to-target : Passes s whole_rule (opening 16) 0 p
      to-target j k = trans (to-arrow j k) (word_goes s arrow (opening 16) q p ar j k)

      -- the target is refused
      pub second_refused : (e : Misreading) → Stops s (opening 16) p e → Refused 16 s e
      second_refused e h = refused s e (then_stops s whole_rule (opening 16) (λ j k. k) 0 p e to-target h)

      module _ (q' r' : ℕ) (mid' : Drafted) (b : Stands s (drop p s) (opening 16) p 16 q' r' mid mid') where
        -- something stands behind the target
        pub rest_refused : q' < length s → Refused 16 s (BadText q')
        rest_refused lt = bad_refused s q' (omega arith) (λ j. ([], trans (to-target j []) (b.goes j []), subst (Halts []) (sym (drop_more s q' 0 lt)) refl))

        -- the whole text was read
        pub all_read : (t : Rule) → t.activator ≡ r → t.target ≡ r' → length s ≤ q' → Plants 16 s was mid' t
        all_read t ea et le =
            let f = a.tree in
            let g = b.tree in
            let right : drop p s ≡ written (meant g) = b.text ∙ ap (before g) (drop_all q' s le) ∙ before_written g [] ∙ append-nil (written (meant g)) in
            record {
              activator = f;
              target = g;
              says = record { is = sym (a.text ∙ before_written f (drop q s) ∙ ap (λ z. written (meant f) ++ z) (ar.1 ∙ ap (λ z. arrow ++ z) right)); left = within_up f 16 a.within; right = within_up g 16 b.within };
              rows = b.rows ∙ ap (λ x. (plant g x).0) a.rows;
              first = ea ∙ a.last;
              second = et ∙ (b.last ∙ ap (λ x. (plant g x).1) a.rows);
            }
