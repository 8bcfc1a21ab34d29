-- What looking at an instant of a live trace answers, and what it leaves in the two places that it is lent.
use Rattle.std.specs.Prelude.{◌≡◌, ℕ, ◌+◌, ◌||◌, List, [], ◌∷◌, ◌++◌, length, Some, None, Ok, Err, Option, Result, ◌==◌, nat_le, nat_lt}
use Rattle.label.specs.Labels.{verdict}
use Rattle.label.specs.declared.verdict.Verdict.{Verdict}
use Rattle.label.specs.declared.verdict.Verdict.TheVariants.{No, Open, Yes}
use Rattle.register.specs.Calls.{when, unless, noted}
use Rattle.register.specs.Contents.{Content, activator, target, coded_trace}
use Rattle.register.specs.History.{Foresees}
use Rattle.register.specs.Limits.{last_code, max_instants}
use Rattle.register.specs.Refusals.{code}
use Rattle.register.specs.State.{State, with_open}
use Rattle.register.specs.declared.refusal.Refusal.{Refusal}
use Rattle.register.specs.declared.refusal.Refusal.TheVariants.{NoCode, Long, NoInstant, NoRule}
use Rattle.sheet.specs.Formulas.{Formula}
use Rattle.exports.specs.Numbers.{done}
use Rattle.exports.specs.Rules.{SheetOf, NoSheet}

-- why noting these codes after n others is refused: the first of them that names no symbol, or for which there is no more room
abbrev pub note_refusal : ℕ → List ℕ → Option Refusal
note_refusal n [] = None
note_refusal n (c ∷ cs) = when (nat_lt last_code c) NoCode (when (nat_le max_instants n) Long (note_refusal (n + 1) cs))

-- a refusal is told by the number and the values of the one that there is
abbrev pub ToldAs : Refusal → Option Refusal → Type 0
ToldAs why o = (w : Refusal) × (o ≡ Some w) × (code why ≡ code w)

-- after the noting of these codes, all are in the open trace behind those that were there; or the first refusal among them is told
abbrev pub NotedAll : List ℕ → State → Result (Unit {0}) Refusal → State → Type 0
NotedAll codes v (Ok u) w = (note_refusal (length (noted v.opened)) codes ≡ None) × (w ≡ with_open v (Some (noted v.opened ++ codes)))
NotedAll codes v (Err why) w = ToldAs why (note_refusal (length (noted v.opened)) codes)

-- why rule k of a sheet cannot be looked at in instant i of a trace of n instants
abbrev pub look_refusal : Content → ℕ → ℕ → ℕ → Option Refusal
look_refusal c n k i = when (nat_le (length c.rules) k) NoRule (when (i == 0 || nat_lt n i) NoInstant None)

-- why noting the codes and looking at an instant of them is refused
abbrev pub peek_refusal : Content → List ℕ → ℕ → ℕ → Option Refusal
peek_refusal c codes k i = unless (note_refusal 0 codes) (λ why. Some why) (look_refusal c (length codes) k i)

-- a verdict is the standing one of a formula, and no continuation of the trace changes it
pub record Stands (f : Formula) (codes : List ℕ) (i : ℕ) (v : Verdict) : Type 0 where
  pub is : v ≡ verdict Open (coded_trace codes) f i
  pub final : Foresees v f (coded_trace codes) i

-- what is seen: the standing verdicts of a rule's activator and target, or why there are none
abbrev pub Seen : Content → List ℕ → ℕ → ℕ → Result (Verdict × Verdict) Refusal → Type 0
Seen c codes k i (Ok p) = (peek_refusal c codes k i ≡ None) × Stands (activator c k) codes i p.0 × Stands (target c k) codes i p.1
Seen c codes k i (Err why) = ToldAs why (peek_refusal c codes k i)

-- the number of a verdict
abbrev pub verdict_number : Verdict → ℕ
verdict_number No = 0
verdict_number Open = 1
verdict_number Yes = 2

-- the answer for what is seen, and the numbers of the verdicts in the two places; a refusal leaves these as they were
abbrev pub Shown : Result (Verdict × Verdict) Refusal → ℕ → ℕ → ℕ → ℕ → ℕ → Type 0
Shown (Ok p) a t a' t' r = (r ≡ done) × (a' ≡ verdict_number p.0) × (t' ≡ verdict_number p.1)
Shown (Err why) a t a' t' r = (r ≡ (code why).number) × (a' ≡ a) × (t' ≡ t)

-- What the exported call answers and leaves, where a and t were in the two places and a' and t' are left there.
pub data Peeked (rules codes : List ℕ) (k i a t a' t' r : ℕ) : Type 0 where
  unruled : NoSheet rules r → a' ≡ a → t' ≡ t → Peeked rules codes k i a t a' t' r
  ruled : (c : Content) → SheetOf rules c → (seen : Result (Verdict × Verdict) Refusal) → Seen c codes k i seen
      → Shown seen a t a' t' r → Peeked rules codes k i a t a' t' r
