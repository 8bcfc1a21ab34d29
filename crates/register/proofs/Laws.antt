-- The law of runs, and how a call's own outcome gives it.
use Rattle.std.proofs.Common.{◌≡◌, ℕ, ◌+◌, ◌*◌, ◌<◌, ◌≤◌, Bool, true, false, ◌||◌, eqb, ltb, leb, ◌↔◌, List, [], ◌∷◌, ◌++◌, map, reverse, length, get_or, Some, None, fold, sum_by, Option, sym, refl, ap, ◌∙◌, subst, ap₂, subst₂, arith}
use Rattle.std.specs.List.Sorted.{IsPermutation}
use Rattle.std.specs.List.{AllByRecursion}
use Rattle.std.proofs.ByRecursion.{All-weaker}
use Rattle.std.proofs.lemmas.List.{get_or-map, length-map}
use Rattle.std.proofs.lemmas.List.Sorted.{sum_by-IsPermutation}
use Rattle.std.proofs.lemmas.List.Sums.{sum_by-cons}
use Rattle.std.proofs.lemmas.Bool.Decides.{nat_tests}
use Rattle.label.specs.Labels.{verdict}
use Rattle.label.specs.declared.verdict.Verdict.{Verdict}
use Rattle.label.specs.declared.verdict.Verdict.TheVariants.{Open}
use Rattle.label.proofs.Truths.{standing}
use Rattle.sheet.specs.Rows.{mirror_row}
use Rattle.sheet.specs.declared.row.Row.{Row}
use Rattle.sheet.specs.declared.row.Rule.{Rule}
use Rattle.register.specs.Calls.{Call, taking_in, opening, noting, peeking, closing, setting_aside, reading, Answer, refused, verdicts, noted, wrong, when, unless}
use Rattle.register.specs.Contents.{Content, mirrored, Trace, activator, target, coded_trace, rule_at}
use Rattle.register.specs.History.{History, made, asked, Foresees, figures_of, Law, Asked, Begun}
use Rattle.register.specs.Journal.{Journal, journal_refusal, accepted, step, journal_after, Answers, Judged}
use Rattle.register.specs.Limits.{millionths}
use Rattle.register.specs.Refusals.{code}
use Rattle.register.specs.State.{State, state, state_refusal, changed, given, next, reply, fresh}
use Rattle.register.specs.Sums.{no_figures, own}
use Rattle.register.specs.Tallies.{Figured, Spotless}
use Rattle.register.specs.declared.figures.Figures.{Figures}
use Rattle.register.specs.declared.refusal.Refusal.{Refusal}
use Rattle.register.specs.declared.refusal.Refusal.TheVariants.{WrongSlip, NoRule, NoInstant}
use Rattle.register.specs.declared.register.Register.{Register}
use Rattle.register.proofs.Counts.{sum_full}
use Rattle.register.proofs.Owned.{own_mirror, own_full, own_degree_le}
use Rattle.register.proofs.Shown.{total, total_figured, shown, step_answer}

-- the journal keeps its sheet
step_sheet : (j : Journal) (c : Call) → (step j c).content ≡ j.content
step_sheet j c = go (journal_refusal j c)
  where
    plain : (d : Call) → (accepted j d).content ≡ j.content
    plain (taking_in rs cells) = refl
    plain opening = refl
    plain (noting s code) = refl
    plain (peeking s k i) = refl
    plain (closing s cells) = refl
    plain (setting_aside s) = refl
    plain (reading k) = refl

    go : (o : Option Refusal) → (unless o (λ _. j) (accepted j c)).content ≡ j.content
    go (Some r) = refl
    go None = plain c

-- after any calls
sheet_kept : (calls : List Call) (j : Journal) → (fold step j calls).content ≡ j.content
sheet_kept [] j = refl
sheet_kept (c ∷ calls) j = sheet_kept calls (step j c) ∙ step_sheet j c

-- as many instants as codes
pub coded_length : (codes : List ℕ) → length (coded_trace codes) ≡ length codes
unfolding coded_trace
coded_length codes = length-map codes _

-- a peek that is not refused foresees the truth
peeks_at : (j : Journal) (s k i : ℕ) (v w : Verdict) → Answers j (peeking s k i) (verdicts v w)
    → Foresees v (activator j.content k) (coded_trace (noted j.opened)) i
    × Foresees w (target j.content k) (coded_trace (noted j.opened)) i
peeks_at j s k i v w = go (wrong j.mark s j.opened) (leb (length j.content.rules) k) (eqb i 0 || ltb (length (noted j.opened)) i) refl
  where
    go : (x y z : Bool) → (eqb i 0 || ltb (length (noted j.opened)) i) ≡ z
        → Judged (when x WrongSlip (when y NoRule (when z NoInstant None))) (verdicts v w)
        (verdicts v w ≡ verdicts (verdict Open (coded_trace (noted j.opened)) (activator j.content k) i) (verdict Open (coded_trace (noted j.opened)) (target j.content k) i))
        → Foresees v (activator j.content k) (coded_trace (noted j.opened)) i × Foresees w (target j.content k) (coded_trace (noted j.opened)) i
    go true y z f e = let n : ◌≡◌ {A = ℕ} 0 1 = cc in let no_way : ⊥ = omega arith in absurd no_way
    go false true z f e = let n : ◌≡◌ {A = ℕ} 0 1 = cc in let no_way : ⊥ = omega arith in absurd no_way
    go false false true f e = let n : ◌≡◌ {A = ℕ} 0 1 = cc in let no_way : ⊥ = omega arith in absurd no_way
    go false false false f e =
        let low : 1 ≤ i = grind (arith, nat_tests) in
        let high : i ≤ length (noted j.opened) = grind (arith, nat_tests) in
        let long : i ≤ length (coded_trace (noted j.opened)) = omega (arith, coded_length (noted j.opened)) in
        let first : verdict Open (coded_trace (noted j.opened)) (activator j.content k) i ≡ v = cc in
        let second : verdict Open (coded_trace (noted j.opened)) (target j.content k) i ≡ w = cc in (
          subst (λ x. Foresees x (activator j.content k) (coded_trace (noted j.opened)) i) first
              (λ more. standing (coded_trace (noted j.opened)) more (activator j.content k) i low long),
          subst (λ x. Foresees x (target j.content k) (coded_trace (noted j.opened)) i) second
              (λ more. standing (coded_trace (noted j.opened)) more (target j.content k) i low long),
        )

-- sums over the images of a list
sum_image : {X Y : Type 0} (g : X → Y) (f : Y → ℕ) (e : X → ℕ) → ((x : X) → f (g x) ≡ e x)
    → (xs : List X) → sum_by f (map g xs) ≡ sum_by e xs
sum_image g f e h [] = refl
sum_image g f e h (x ∷ xs) =
    sum_by-cons f (g x) (map g xs) ∙ (λ i. h x i + sum_image g f e h xs i) ∙ sym (sum_by-cons e x xs)

-- a figure's sum over reversed traces in any order
sum_mirror : (rows : List Row) (rule : Rule) (field : Figures → ℕ) (ts us : List Trace) → IsPermutation (map reverse ts) us
    → sum_by (λ t. field (own (map mirror_row rows) t rule)) us ≡ sum_by (λ t. field (own rows t rule)) ts
sum_mirror rows rule field ts us s =
    sum_by-IsPermutation (λ t. field (own (map mirror_row rows) t rule)) (map reverse ts) us s
    ∙ sum_image reverse (λ t. field (own (map mirror_row rows) t rule)) (λ t. field (own rows t rule)) (λ t. ap field (own_mirror rows t rule)) ts

-- the figures of the mirrored rows over reversed traces in any order
total_mirror : (rows : List Row) (ts us : List Trace) → IsPermutation (map reverse ts) us → (rule : Rule)
    → total (map mirror_row rows) us rule ≡ total rows ts rule
total_mirror rows ts us s rule =
    λ i. record {
      both = sum_mirror rows rule (λ f. f.both) ts us s i;
      act = sum_mirror rows rule (λ f. f.act) ts us s i;
      tgt = sum_mirror rows rule (λ f. f.tgt) ts us s i;
      none = sum_mirror rows rule (λ f. f.none) ts us s i;
      triggered = sum_mirror rows rule (λ f. f.triggered) ts us s i;
      degrees = sum_mirror rows rule (λ f. f.degrees) ts us s i;
    }

-- of all rules
sums_mirror : (rows : List Row) (rules : List Rule) (ts us : List Trace) → IsPermutation (map reverse ts) us
    → map (total (map mirror_row rows) us) rules ≡ map (total rows ts) rules
sums_mirror rows [] ts us s = refl
sums_mirror rows (rule ∷ rules) ts us s = ap₂ ◌∷◌ (total_mirror rows ts us s rule) (sums_mirror rows rules ts us s)

-- the degrees are full exactly where every trace is spotless
total_full : (c : Content) (k : ℕ) (ts : List Trace)
    → ((total c.rows ts (rule_at c k)).degrees ≡ millionths * length ts) ↔ Spotless (activator c k) (target c k) ts
total_full c k ts =
    let h : (sum_by (λ t. (own c.rows t (rule_at c k)).degrees) ts ≡ millionths * length ts)
    ↔ AllByRecursion (λ t. (own c.rows t (rule_at c k)).degrees ≡ millionths) ts
    = (sum_full (λ t. (own c.rows t (rule_at c k)).degrees) millionths (λ t. own_degree_le c.rows t (rule_at c k)) ts).1 in (
      (λ e. All-weaker _ _ (λ t. (own_full c.rows t (rule_at c k)).0) ts (h.0 e)),
      λ a. h.1 (All-weaker _ _ (λ t. (own_full c.rows t (rule_at c k)).1) ts a),
    )

module _ (c : Content) (mark : ℕ) (calls : List Call) where
  -- the sums of the summary, with the sheet that the register was made with
  sums-are : (r : Register) → History c mark calls r
      → (state r).held.sums ≡ map (total c.rows (journal_after c mark calls).traces) c.rules
  sums-are r h =
      ap (λ (v : State). v.held.sums) (shown h)
      ∙ ap (λ (d : Content). map (total d.rows (journal_after c mark calls).traces) d.rules) (sheet_kept calls _)

  -- those of one rule
  figures-are : (r : Register) → History c mark calls r → (k : ℕ) → k < length c.rules
      → figures_of r k ≡ total c.rows (journal_after c mark calls).traces (rule_at c k)
  figures-are r h k lt =
      ap (λ fs. get_or fs k no_figures) (sums-are r h) ∙ get_or-map _ c.rules k _ no_figures lt

-- The law of every history.
pub law : (c : Content) (mark : ℕ) (calls : List Call) (r : Register) → History c mark calls r → Law c mark calls r
law c mark calls r h = record {
  past = h;
  tallies = λ k lt.
      subst (λ f. Figured (activator c k) (target c k) (journal_after c mark calls).traces f) (sym (figures-are c mark calls r h k lt))
      (total_figured c (journal_after c mark calls).traces k);
  sizes = (ap (λ (v : State). v.held.traces) (shown h), ap (λ (v : State). v.held.instants) (shown h));
  peeks = λ s k i v w e.
      let P : Content → Type 0
      = λ d. Foresees v (activator d k) (coded_trace (noted (journal_after c mark calls).opened)) i
      × Foresees w (target d k) (coded_trace (noted (journal_after c mark calls).opened)) i in
      subst P (sheet_kept calls _) (peeks_at (journal_after c mark calls) s k i v w e);
  mirrors = λ other_mark others s g shuffled k.
      ap (λ fs. get_or fs k no_figures)
      (sums-are (mirrored c) other_mark others s g ∙ sums_mirror c.rows c.rules _ _ shuffled ∙ sym (sums-are c mark calls r h));
  degrees = λ k lt.
      let P : Figures → ℕ → Type 0
      = λ f n. (f.degrees ≡ millionths * n) ↔ Spotless (activator c k) (target c k) (journal_after c mark calls).traces in
      subst₂ P (sym (figures-are c mark calls r h k lt)) (sym (ap (λ (v : State). v.held.traces) (shown h)))
      (total_full c k (journal_after c mark calls).traces);
}

-- a new register
pub begins : (c : Content) (mark : ℕ) (r : Register) → state r ≡ fresh c mark → Begun c mark r
begins c mark r e = record { state_is = e; lawful = law c mark [] r (made e); runs = law }

-- What every call's proof cites: its own outcome gives its whole contract.
outcome : (r : Register) (call : Call) (s : Register) (a : Answer)
    → state s ≡ next (state r) call → a ≡ reply (state r) call → Asked r call s a
outcome r call s a after answers = record {
  after = after;
  answers = answers;
  lawful = λ c mark calls h. record {
    told =
        subst (λ x. Answers (journal_after c mark calls) call x) (sym (answers ∙ ap (λ v. reply v call) (shown h)))
        (step_answer (journal_after c mark calls) call);
    before = law c mark calls r h;
    after = law c mark (calls ++ (call ∷ [])) s (asked call h after);
  };
}

-- One way that a call ends: a refusal, which changes nothing.
pub refuses : (r : Register) (call : Call) (s : Register) (why : Refusal)
    → state_refusal (state r) call ≡ Some why → state s ≡ state r → Asked r call s (refused (code why))
refuses r call s why e same =
    outcome r call s (refused (code why))
    (same ∙ sym (ap (λ o. unless o (λ _. state r) (changed (state r) call)) e))
    (sym (ap (λ o. unless o (λ x. refused (code x)) (given (state r) call)) e))

-- The other: nothing refuses it.
pub accepts : (r : Register) (call : Call) (s : Register) (a : Answer)
    → state_refusal (state r) call ≡ None → state s ≡ changed (state r) call → a ≡ given (state r) call → Asked r call s a
accepts r call s a e after answers =
    outcome r call s a
    (after ∙ sym (ap (λ o. unless o (λ _. state r) (changed (state r) call)) e))
    (answers ∙ sym (ap (λ o. unless o (λ x. refused (code x)) (given (state r) call)) e))

-- a cause of a refusal that applies
pub when_yes : (b : Bool) (why : Refusal) (rest : Option Refusal) → b ≡ true → when b why rest ≡ Some why
when_yes b why rest e = ap (λ x. when x why rest) e

-- and one that does not
pub when_no : (b : Bool) (why : Refusal) (rest : Option Refusal) → b ≡ false → when b why rest ≡ rest
when_no b why rest e = ap (λ x. when x why rest) e
