-- What `all` and `any` answer over a range of numbers, where the test decides a property of each.
use Rattle.std.proofs.Common.{◌≡◌, ℕ, ◌+◌, ◌-◌, ◌<◌, ◌≤◌, Bool, true, false, Some, None, Option, refl, ap, ◌∙◌, subst, arith}
use Rattle.std.specs.Prelude.{Decides, MatchBool, IfSome, IsSomeAnd}
use Rattle.std.specs.Iterator.Runs.{Run, SomeRun, AllItems, AnyItem, AllItemsGive, AnyItemGives, CallKeepsClosure, ItemsCountUp}
use Rattle.std.specs.Range.{range_inclusive_start, range_inclusive_end, range_inclusive_exhausted}
use Rattle.std.specs.Option.{option_map}
use Rattle.std.proofs.iter.Yields.{nat_range_steps}
use Rattle.std.proofs.iter.runs.Sources.{range_runs, inclusive_listed, nat_range_inclusive_steps}
use Rattle.std.proofs.lemmas.Bool.{false≢true}
use Rattle.std.specs.declared.ops.Range.{Range}
use Rattle.std.specs.declared.ops.RangeInclusive.{RangeInclusive}
use denote.Param.Members.{Mut, Called}

-- what is there, from what is read there
there : (o : Option ℕ) (n : ℕ) → option_map (λ y. y) o ≡ Some n → o ≡ Some n
there None n e = e
there (Some x) n e = e

-- two facts of one item
both_of : (o : Option ℕ) (P Q : ℕ → Type 0) → IsSomeAnd o P → IfSome o Q → (x : ℕ) × P x × Q x
both_of None P Q h q = absurd h
both_of (Some x) P Q h q = (x, h, q)

module _ {S : Type 0} {steps : S → Option ℕ → S → Type 0} (p : Run steps) (a b : ℕ) (up : ItemsCountUp p a b) (P : ℕ → Type 0) where
  -- what holds of all items of a whole run holds of all numbers of the range
  all_in : p.whole ≡ true → AllItems p P → (k : ℕ) → a ≤ k → k < b → P k
  all_in whole all k low high =
      let e : a + (k - a) ≡ k = omega arith in
      subst (λ o. IfSome o P) (there (p.at (k - a)) k (up.3 (k - a) (omega (arith, up.1 whole)) ∙ ap Some e)) (all (k - a))

  -- what holds of an item holds of a number of the range
  any_in : AnyItem p P → (k : ℕ) × (a ≤ k) × (k < b) × P k
  any_in item = let x = both_of (p.at item.0) P (λ x. (x ≡ a + item.0) × (x < b)) item.2 (up.2 item.0) in (x.0, omega (arith, x.2.0), x.2.1, x.1)

module _ {S F : Type 0} {steps : S → Option ℕ → S → Type 0} (g : Mut F (ℕ × Unit {0}) Bool) (f : F) (keeps : CallKeepsClosure g f) (P : ℕ → Type 0) (yes : (k : ℕ) → Called g f (k, tt) true f → P k) (no : (k : ℕ) → Called g f (k, tt) false f → P k → ⊥) (s : S) (a b : ℕ) (up : (p : Run steps) → p.from ≡ s → ItemsCountUp p a b) where
  -- `all`
  pub all_decides : (r : Bool) → SomeRun steps s (λ p. MatchBool r ((p.whole ≡ true) × AllItemsGive p g f true) (AnyItemGives p g f false)) → Decides r ((k : ℕ) → a ≤ k → k < b → P k)
  all_decides true h =
      let p = h.0 in
      ((λ e k low high. yes k (all_in p a b (up p h.1) (λ x. Called g f (x, tt) true f) h.2.0 (h.2.1 keeps) k low high)), λ all. refl)
  all_decides false h =
      let x = any_in h.0 a b (up h.0 h.1) (λ x. Called g f (x, tt) false f) (h.2 keeps) in
      ((λ e. absurd (false≢true e)), λ all. absurd (no x.0 x.3 (all x.0 x.1 x.2)))

  -- `any`
  pub any_decides : (r : Bool) → SomeRun steps s (λ p. MatchBool r (AnyItemGives p g f true) ((p.whole ≡ true) × AllItemsGive p g f false)) → Decides r ((k : ℕ) × (a ≤ k) × (k < b) × P k)
  any_decides true h =
      let x = any_in h.0 a b (up h.0 h.1) (λ x. Called g f (x, tt) true f) (h.2 keeps) in
      ((λ e. (x.0, x.1, x.2, yes x.0 x.3)), λ some. refl)
  any_decides false h =
      let p = h.0 in
      ((λ e. absurd (false≢true e)), λ some. absurd (no some.0 (all_in p a b (up p h.1) (λ x. Called g f (x, tt) false f) h.2.0 (h.2.1 keeps) some.0 some.1 some.2) some.3))

-- the numbers of `a..b`
pub range_up : (s : Range ℕ) (p : Run nat_range_steps) → p.from ≡ s → ItemsCountUp p s.start s.end
range_up s p e = subst (λ (r : Range ℕ). ItemsCountUp p r.start r.end) e (range_runs p p.seen)

-- the numbers of `a..=b`
pub inclusive_up : (s : RangeInclusive ℕ) (a b : ℕ) → range_inclusive_start s ≡ a → range_inclusive_end s ≡ b → range_inclusive_exhausted s ≡ false → (p : Run nat_range_inclusive_steps) → p.from ≡ s → ItemsCountUp p a (b + 1)
inclusive_up s a b start end fresh p e =
    let h = inclusive_listed p p.seen in
    let up : ItemsCountUp p h.0 h.1 = (h.4 (ap range_inclusive_exhausted e ∙ fresh)).0 in
    subst (λ n. ItemsCountUp p a n) (h.3 ∙ ap (λ r. range_inclusive_end r + 1) e ∙ ap (λ n. n + 1) end) (subst (λ n. ItemsCountUp p n h.1) (h.2 ∙ ap range_inclusive_start e ∙ start) up)
