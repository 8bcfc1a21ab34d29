-- The table of worked examples comes out by computing it.
use Rattle.std.proofs.Common.{◌≡◌, ℕ, List, [], ◌∷◌, refl, subst}
use Rattle.label.specs.Examples.{labels_of}
use Rattle.label.specs.declared.verdict.Verdict.{Verdict}
use Rattle.label.specs.declared.verdict.Verdict.TheVariants.{No}
use Rattle.register.specs.Contents.{Content, activator, target, coded_trace, rule_at}
use Rattle.register.specs.Examples.{ComesOut, LinesHold, closed, b_somewhere, d_before, d_after, next_is}
use Rattle.register.specs.Sums.{own}
use Rattle.register.specs.Tallies.{Degree}
use Rattle.register.proofs.Owned.{own_degree}

-- a closed line, from its labels and its degree
closed_line : (c : Content) (codes : List ℕ) (acts meets : List Verdict) (d : ℕ)
    → labels_of No (coded_trace codes) (activator c 0) ≡ acts → labels_of No (coded_trace codes) (target c 0) ≡ meets
    → (own c.rows (coded_trace codes) (rule_at c 0)).degrees ≡ d → ComesOut (closed c codes acts meets d)
closed_line c codes acts meets d a m e =
    (a, m, subst (λ x. Degree (activator c 0) (target c 0) (coded_trace codes) x) e (own_degree c.rows (coded_trace codes) (rule_at c 0)))

-- all lines, and the mirror
pub tabled : LinesHold
unfolding own coded_trace
tabled = (
  (
    closed_line b_somewhere (3 ∷ 0 ∷ 1 ∷ 2 ∷ 0 ∷ []) _ _ _ refl refl refl,
    (
      closed_line d_before (0 ∷ 3 ∷ 0 ∷ 2 ∷ 0 ∷ []) _ _ _ refl refl refl,
      (
        closed_line d_before (1 ∷ 2 ∷ 3 ∷ 4 ∷ []) _ _ _ refl refl refl,
        (
          closed_line d_after (0 ∷ 2 ∷ 0 ∷ 3 ∷ 0 ∷ []) _ _ _ refl refl refl,
          (closed_line (next_is 0) (0 ∷ []) _ _ _ refl refl refl, (refl, (refl, (refl, (refl, tt))))),
        ),
      ),
    ),
  ),
  refl,
  refl,
)
