-- What a register adds up: the figures of one trace, counted over its settled labels, and their sums.
use Rattle.std.specs.Prelude.{ℕ, zero, suc, ◌+◌, ◌*◌, ◌/◌, Bool, true, false, cond, not, ◌&&◌, List, [], ◌∷◌, length, Some, None, Option, ◌==◌, nat_lt, slice_index_or}
use Rattle.label.specs.Labels.{label_at}
use Rattle.label.specs.Strips.{cell}
use Rattle.label.specs.declared.verdict.Verdict.{Verdict}
use Rattle.label.specs.declared.verdict.Verdict.TheVariants.{No, Open, Yes}
use Rattle.sheet.specs.declared.row.Row.{Row}
use Rattle.sheet.specs.declared.row.Rule.{Rule}
use Rattle.register.specs.Contents.{Trace}
use Rattle.register.specs.Limits.{millionths}
use Rattle.register.specs.declared.figures.Figures.{Figures}
use Rattle.register.specs.declared.figures.Told.{Told}

-- a verdict is yes
abbrev pub yes : Verdict → Bool
yes No = false
yes Open = false
yes Yes = true

-- in how many of the instants 1 to n a test passes
abbrev pub count : (ℕ → Bool) → ℕ → ℕ
count p zero = 0
count p (suc n) = count p n + cond (p (suc n)) 1 0

-- figures of nothing
abbrev pub no_figures : Figures
no_figures = record { both = 0; act = 0; tgt = 0; none = 0; triggered = 0; degrees = 0 }

-- four tallies of one trace, with the trigger and the degree that they give
abbrev pub graded : Figures → Figures
graded f = record {
  both = f.both;
  act = f.act;
  tgt = f.tgt;
  none = f.none;
  triggered = cond (nat_lt 0 (f.both + f.act)) 1 0;
  degrees = cond (nat_lt 0 (f.both + f.act)) (f.both * millionths / (f.both + f.act)) 0;
}

-- the four tallies of the instants 1 to n, where p tells of the activator and q of the target
abbrev pub tallied : (ℕ → Bool) → (ℕ → Bool) → ℕ → Figures
tallied p q n = record {
  both = count (λ i. p i && q i) n;
  act = count (λ i. p i && not (q i)) n;
  tgt = count (λ i. not (p i) && q i) n;
  none = count (λ i. not (p i) && not (q i)) n;
  triggered = 0;
  degrees = 0;
}

-- the figures of n instants, by the cells of a strip with m cells for each
unfoldable pub cell_figures : List Verdict → ℕ → ℕ → Rule → Figures
cell_figures strip m n rule =
    graded (tallied (λ i. yes (slice_index_or strip (cell m i rule.activator) No)) (λ i. yes (slice_index_or strip (cell m i rule.target) No)) n)

-- the figures of one trace, by the settled labels of a rule's rows
unfoldable pub own : List Row → Trace → Rule → Figures
own rows rs rule =
    graded (tallied (λ i. yes (label_at No rs rows i rule.activator)) (λ i. yes (label_at No rs rows i rule.target)) (length rs))

-- the sums of two rules' figures
abbrev pub plus : Figures → Figures → Figures
plus f g = record {
  both = f.both + g.both;
  act = f.act + g.act;
  tgt = f.tgt + g.tgt;
  none = f.none + g.none;
  triggered = f.triggered + g.triggered;
  degrees = f.degrees + g.degrees;
}

-- each rule's figures, with what one more trace gives to the rule
abbrev pub added : (Rule → Figures) → List Rule → List Figures → List Figures
added more [] fs = fs
added more (r ∷ rs) [] = []
added more (r ∷ rs) (f ∷ fs) = plus f (more r) ∷ added more rs fs

-- figures with one more instant, at which the activator has the value a and the target the value b
abbrev pub ticked : Figures → Bool → Bool → Figures
ticked f a b = record {
  both = f.both + cond (a && b) 1 0;
  act = f.act + cond (a && not b) 1 0;
  tgt = f.tgt + cond (not a && b) 1 0;
  none = f.none + cond (not a && not b) 1 0;
  triggered = f.triggered;
  degrees = f.degrees;
}

-- how often a rule is met: both, and all instants; absent where there is no instant
abbrev pub support : ℕ → ℕ → Option (ℕ × ℕ)
support both instants = cond (instants == 0) None (Some (both, instants))

-- how often the target holds where the activator does: both, and both with act; absent where no activator held
abbrev pub confidence : ℕ → ℕ → Option (ℕ × ℕ)
confidence both act = cond (both + act == 0) None (Some (both, both + act))

-- what is told of a rule with these figures, over so many traces and instants
abbrev pub telling : Figures → ℕ → ℕ → Told
telling f traces instants = record {
  figures = f;
  traces = traces;
  instants = instants;
  support = support f.both instants;
  confidence = confidence f.both f.act;
}
