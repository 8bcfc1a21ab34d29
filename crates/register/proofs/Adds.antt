-- The loops that count a trace's cells and add its figures rule by rule, and what that leaves.
use Rattle.std.proofs.Common.{◌≡◌, ℕ, zero, suc, ◌+◌, ◌*◌, ◌<◌, ◌≤◌, Bool, true, ltb, ◌⊎◌, List, [], ◌∷◌, ◌++◌, map, length, get_or, take, set, vec_items, sym, refl, ap, ◌∙◌, subst, ap₂, inl, inr, add-one, arith}
use Rattle.std.proofs.lemmas.List.{map_more, take_all}
use Rattle.std.proofs.lemmas.Bool.{and_parts, ltb-true}
use Rattle.label.specs.Labels.{label_at}
use Rattle.label.specs.Strips.{cell, labels}
use Rattle.label.specs.declared.verdict.Verdict.{Verdict}
use Rattle.label.specs.declared.verdict.Verdict.TheVariants.{No}
use Rattle.label.proofs.Blocks.{labels_at}
use Rattle.sheet.specs.Rows.{rule_there}
use Rattle.sheet.specs.Sheets.{ruled}
use Rattle.sheet.specs.declared.row.Row.{Row}
use Rattle.sheet.specs.declared.row.Rule.{Rule}
use Rattle.register.specs.Bounds.{Within, Bounded}
use Rattle.register.specs.Contents.{Trace}
use Rattle.register.specs.Limits.{max_instants}
use Rattle.register.specs.Sums.{no_figures, yes, tallied, graded, ticked, cell_figures, own, plus, added}
use Rattle.register.specs.declared.figures.Figures.{Figures}
use Rattle.register.specs.declared.totals.Totals.{Totals}
use Rattle.register.proofs.Counts.{Agree, tallied_more, tallied_same, tallied_adds, graded_within}

-- what the cells of a strip tell of a row
abbrev pub cell_test : List Verdict → ℕ → ℕ → ℕ → Bool
cell_test strip m r i = yes (get_or strip (cell m i r) No)

-- the tallies of the first i instants
abbrev pub cells_upto : List Verdict → ℕ → Rule → ℕ → Figures
cells_upto strip m rule i = tallied (cell_test strip m rule.activator) (cell_test strip m rule.target) i

-- one turn of the loop over the instants
pub cells_more : (strip : List Verdict) (m : ℕ) (rule : Rule) (i : ℕ) (f r : Figures) (a b : Bool)
    → f ≡ cells_upto strip m rule i → a ≡ yes (get_or strip (i * m + rule.activator) No) → b ≡ yes (get_or strip (i * m + rule.target) No)
    → r ≡ ticked f a b → r ≡ cells_upto strip m rule (i + 1)
cells_more strip m rule i f r a b ef ea eb er =
    er ∙ (λ j. ticked (ef j) ((ea ∙ here rule.activator) j) ((eb ∙ here rule.target) j))
    ∙ sym (tallied_more (cell_test strip m rule.activator) (cell_test strip m rule.target) i)
  where
    here : (x : ℕ) → yes (get_or strip (i * m + x) No) ≡ cell_test strip m x (i + 1)
    here x = ap (λ k. yes (get_or strip (k * m + x) No)) (omega arith)

-- as many instants as tallies
pub cells_adds : (strip : List Verdict) (m : ℕ) (rule : Rule) (i : ℕ) (f : Figures) → f ≡ cells_upto strip m rule i
    → f.both + f.act + f.tgt + f.none ≡ i
cells_adds strip m rule i f e =
    ap (λ (x : Figures). x.both + x.act + x.tgt + x.none) e ∙ tallied_adds (cell_test strip m rule.activator) (cell_test strip m rule.target) i

-- the end of the loop
pub cells_all : (strip : List Verdict) (m n : ℕ) (rule : Rule) (i : ℕ) (f r : Figures)
    → f ≡ cells_upto strip m rule i → i ≡ n → r ≡ graded f → r ≡ cell_figures strip m n rule
unfolding cell_figures
cells_all strip m n rule i f r ef en er = er ∙ ap graded (ef ∙ ap (cells_upto strip m rule) en)

-- the figures are within the number of instants
pub cells_within : (strip : List Verdict) (m n : ℕ) (rule : Rule) → Within 1 n (cell_figures strip m n rule)
unfolding cell_figures
cells_within strip m n rule = graded_within (cell_test strip m rule.activator) (cell_test strip m rule.target) n

-- at most so many
pub cells_small : (strip : List Verdict) (m n : ℕ) (rule : Rule) (r : Figures) → n ≤ max_instants
    → r ≡ cell_figures strip m n rule → Within 1 max_instants r
cells_small strip m n rule r few e =
    let P : Figures → Type 0 = Within 1 max_instants in
    let w = cells_within strip m n rule in
    subst P (sym e) (omega (arith, w.0), w.1, w.2)

-- the figures by the cells of a labelled strip are those by the labels
pub cells_own : (rows : List Row) (rs : Trace) (strip more : List Verdict) (rule : Rule) → strip ≡ labels No rs rows ++ more
    → rule_there (length rows) rule ≡ true → cell_figures strip (length rows) (length rs) rule ≡ own rows rs rule
unfolding cell_figures own
cells_own rows rs strip more rule e there =
    ap graded
    (tallied_same (length rs) (cell_test strip (length rows) rule.activator) (cell_test strip (length rows) rule.target)
    (λ i. yes (label_at No rs rows i rule.activator)) (λ i. yes (label_at No rs rows i rule.target))
    (here rule.activator (ltb-true _ _ (and_parts (ltb rule.activator (length rows)) (ltb rule.target (length rows)) there).0))
    (here rule.target (ltb-true _ _ (and_parts (ltb rule.activator (length rows)) (ltb rule.target (length rows)) there).1)))
  where
    here : (r : ℕ) → r < length rows → Agree (length rs) (cell_test strip (length rows) r) (λ i. yes (label_at No rs rows i r))
    here r lt i low high =
        ap yes (ap (λ s. get_or s (cell (length rows) i r) No) e ∙ labels_at No rs rows more i r low high lt)

-- the same of each rule
pub added_same : (more other : Rule → Figures) (m : ℕ) → ((r : Rule) → rule_there m r ≡ true → more r ≡ other r)
    → (rules : List Rule) (fs : List Figures) → ruled m rules ≡ true → added more rules fs ≡ added other rules fs
added_same more other m h [] fs e = refl
added_same more other m h (r ∷ rs) [] e = refl
added_same more other m h (r ∷ rs) (f ∷ fs) e =
    let both = and_parts (rule_there m r) (ruled m rs) e in
    ap₂ (λ g gs. plus f g ∷ gs) (h r both.0) (added_same more other m h rs fs both.1)

-- a rule of the sheet has its rows there
pub ruled_at : (m : ℕ) (rules : List Rule) (k : ℕ) (d : Rule) → ruled m rules ≡ true → k < length rules
    → rule_there m (get_or rules k d) ≡ true
ruled_at m [] k d e lt = let no_way : ⊥ = omega arith in absurd no_way
ruled_at m (r ∷ rs) zero d e lt = (and_parts (rule_there m r) (ruled m rs) e).0
ruled_at m (r ∷ rs) (suc k) d e lt = ruled_at m rs k d (and_parts (rule_there m r) (ruled m rs) e).1 (omega arith)

-- its activator and its target
pub rule_fits : (m : ℕ) (r : Rule) → rule_there m r ≡ true → (r.activator < m) × (r.target < m)
rule_fits m r e =
    let both = and_parts (ltb r.activator m) (ltb r.target m) e in (ltb-true _ _ both.0, ltb-true _ _ both.1)

-- the rules that are still to come have the figures that they had
added_later : (more : Rule → Figures) (k : ℕ) (rules : List Rule) (fs : List Figures)
    → get_or (added more (take k rules) fs) k no_figures ≡ get_or fs k no_figures
added_later more zero rules fs = refl
added_later more (suc k) [] fs = refl
added_later more (suc k) (r ∷ rs) [] = refl
added_later more (suc k) (r ∷ rs) (f ∷ fs) = added_later more k rs fs

-- one rule more
added_suc : (more : Rule → Figures) (k : ℕ) (rules : List Rule) (fs : List Figures) (d : Rule) → k < length rules
    → set (added more (take k rules) fs) k (plus (get_or fs k no_figures) (more (get_or rules k d))) ≡ added more (take (suc k) rules) fs
added_suc more k [] fs d lt = let no_way : ⊥ = omega arith in absurd no_way
added_suc more zero (r ∷ rs) [] d lt = refl
added_suc more zero (r ∷ rs) (f ∷ fs) d lt = refl
added_suc more (suc k) (r ∷ rs) [] d lt = refl
added_suc more (suc k) (r ∷ rs) (f ∷ fs) d lt = ap (λ rest. plus f (more r) ∷ rest) (added_suc more k rs fs d (omega arith))

-- one turn of the loop over the rules
pub added_more : (more : Rule → Figures) (k : ℕ) (rules : List Rule) (fs gs hs : List Figures) (f : Figures) (d : Rule)
    → k < length rules → gs ≡ added more (take k rules) fs → f ≡ get_or gs k no_figures
    → hs ≡ set gs k (plus f (more (get_or rules k d))) → hs ≡ added more (take (k + 1) rules) fs
added_more more k rules fs gs hs f d lt eg ef eh =
    eh
    ∙ (λ i. set (eg i) k (plus ((ef ∙ ap (λ x. get_or x k no_figures) eg ∙ added_later more k rules fs) i) (more (get_or rules k d))))
    ∙ added_suc more k rules fs d lt
    ∙ ap (λ m. added more (take m rules) fs) (sym (add-one k))

-- as many figures as before
length_added : (more : Rule → Figures) (rules : List Rule) (fs : List Figures) → length (added more rules fs) ≡ length fs
length_added more [] fs = refl
length_added more (r ∷ rs) [] = refl
length_added more (r ∷ rs) (f ∷ fs) = ap suc (length_added more rs fs)

-- the same by an equation
pub added_length : (more : Rule → Figures) (rules : List Rule) (fs gs : List Figures) → gs ≡ added more rules fs → length gs ≡ length fs
added_length more rules fs gs e = ap length e ∙ length_added more rules fs

-- the figures of a rule that is still to come are within their bounds
pub later_within : (more : Rule → Figures) (k traces instants : ℕ) (rules : List Rule) (fs gs : List Figures)
    → Bounded traces instants fs → gs ≡ added more (take k rules) fs → Within traces instants (get_or gs k no_figures)
later_within more k traces instants rules fs gs b eg =
    let P : Figures → Type 0 = Within traces instants in
    subst P (sym (ap (λ x. get_or x k no_figures) eg ∙ added_later more k rules fs)) (b k)

-- each figure is as it was or has a trace's own added
added_at : (more : Rule → Figures) (k : ℕ) (rules : List Rule) (fs : List Figures)
    → (get_or (added more rules fs) k no_figures ≡ get_or fs k no_figures)
    ⊎ ((r : Rule) × (get_or (added more rules fs) k no_figures ≡ plus (get_or fs k no_figures) (more r)))
added_at more k [] fs = inl refl
added_at more k (r ∷ rs) [] = inl refl
added_at more zero (r ∷ rs) (f ∷ fs) = inr (r, refl)
added_at more (suc k) (r ∷ rs) (f ∷ fs) = added_at more k rs fs

-- the bounds with one more trace
pub bounded_added : (more : Rule → Figures) (traces instants n : ℕ) (rules : List Rule) (fs gs : List Figures)
    → ((r : Rule) → Within 1 n (more r)) → Bounded traces instants fs → gs ≡ added more rules fs
    → Bounded (traces + 1) (instants + n) gs
bounded_added more traces instants n rules fs gs within b eg k =
    let P : Figures → Type 0 = Within (traces + 1) (instants + n) in
    subst P (sym (ap (λ x. get_or x k no_figures) eg)) (go (added_at more k rules fs) (b k))
  where
    go : (get_or (added more rules fs) k no_figures ≡ get_or fs k no_figures)
        ⊎ ((r : Rule) × (get_or (added more rules fs) k no_figures ≡ plus (get_or fs k no_figures) (more r)))
        → Within traces instants (get_or fs k no_figures) → Within (traces + 1) (instants + n) (get_or (added more rules fs) k no_figures)
    go (inl e) w =
        let Q : Figures → Type 0 = Within (traces + 1) (instants + n) in subst Q (sym e) (omega arith, omega arith, omega arith)
    go (inr h) w =
        let Q : Figures → Type 0 = Within (traces + 1) (instants + n) in
        let v = within h.0 in
        subst Q (sym h.1) (omega (arith, v.0), omega (arith, v.1), omega (arith, v.2))

-- bounds with room to spare
pub bounded_weaker : (t u i j : ℕ) (fs : List Figures) → t ≤ u → i ≤ j → Bounded t i fs → Bounded u j fs
bounded_weaker t u i j fs tu ij b k = let w = b k in (omega (arith, w.0), omega (arith, w.1), omega (arith, w.2))

-- one more figure that is 0
pub fresh_more : (rules : List Rule) (k : ℕ) (gs hs : List Figures) (f : Figures) → k < length rules → f ≡ no_figures
    → gs ≡ map (λ _. no_figures) (take k rules) → hs ≡ gs ++ (f ∷ []) → hs ≡ map (λ _. no_figures) (take (k + 1) rules)
fresh_more rules k gs hs f lt ef eg eh =
    eh ∙ ap₂ (λ x g. x ++ (g ∷ [])) eg ef
    ∙ sym (map_more (λ _. no_figures) rules k (record { activator = 0; target = 0 }) lt)

-- all of them
pub fresh_end : (rules : List Rule) (k : ℕ) (gs : List Figures) → length rules ≤ k
    → gs ≡ map (λ _. no_figures) (take k rules) → gs ≡ map (λ _. no_figures) rules
fresh_end rules k gs le e = e ∙ ap (map (λ _. no_figures)) (take_all k rules le)

-- each of them is 0
none_at : (rules : List Rule) (k : ℕ) → no_figures ≡ get_or (map (λ _. no_figures) rules) k no_figures
none_at [] k = refl
none_at (r ∷ rs) zero = refl
none_at (r ∷ rs) (suc k) = none_at rs k

-- the bounds of figures that are all 0
pub fresh_bounded : (rules : List Rule) (gs : List Figures) → gs ≡ map (λ _. no_figures) rules → Bounded 0 0 gs
fresh_bounded rules gs e k =
    let P : Figures → Type 0 = Within 0 0 in
    subst P (none_at rules k ∙ sym (ap (λ x. get_or x k no_figures) e)) (omega arith, omega arith, omega arith)

-- the figures of totals after the cells of a labelled strip were added are those with the trace's own
pub sums_own : (t : Totals) (rs : Trace) (m n : ℕ) (strip more : List Verdict) (rules : List Rule) (gs : List Figures)
    → m ≡ length (vec_items t.sheet.rows) → n ≡ length rs → rules ≡ vec_items t.sheet.rules
    → strip ≡ labels No rs (vec_items t.sheet.rows) ++ more
    → gs ≡ added (cell_figures strip m n) rules (vec_items t.figures)
    → gs ≡ added (own (vec_items t.sheet.rows) rs) (vec_items t.sheet.rules) (vec_items t.figures)
sums_own t rs m n strip more rules gs em en er es eg =
    let rows : List Row = vec_items t.sheet.rows in
    eg ∙ (λ i. added (cell_figures strip (em i) (en i)) (er i) (vec_items t.figures))
    ∙ added_same (cell_figures strip (length rows) (length rs)) (own rows rs) (length rows) (λ r there. cells_own rows rs strip more r es there)
    (vec_items t.sheet.rules) (vec_items t.figures)
    (subst (λ k. ruled k (vec_items t.sheet.rules) ≡ true) t.sheet.rows.ok.0 t.sheet.pairs)

-- figures by their numbers
abbrev with_numbers : ℕ → ℕ → ℕ → ℕ → ℕ → ℕ → Figures
with_numbers a b c d e f = record { both = a; act = b; tgt = c; none = d; triggered = e; degrees = f }

-- figures that are all 0
pub zero_figures : (f : Figures) → (f.both ≡ 0) × ((f.act ≡ 0) × ((f.tgt ≡ 0) × ((f.none ≡ 0) × ((f.triggered ≡ 0) × (f.degrees ≡ 0))))) → f ≡ no_figures
zero_figures f h =
    ap (λ x. with_numbers x f.act f.tgt f.none f.triggered f.degrees) h.0
    ∙ ap (λ x. with_numbers 0 x f.tgt f.none f.triggered f.degrees) h.1.0
    ∙ ap (λ x. with_numbers 0 0 x f.none f.triggered f.degrees) h.1.1.0
    ∙ ap (λ x. with_numbers 0 0 0 x f.triggered f.degrees) h.1.1.1.0
    ∙ ap (λ x. with_numbers 0 0 0 0 x f.degrees) h.1.1.1.1.0
    ∙ ap (with_numbers 0 0 0 0 0) h.1.1.1.1.1
