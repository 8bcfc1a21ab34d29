-- What has been done to a register, and the law of runs: what holds of it then, whatever was done.
use Rattle.std.specs.Prelude.{◌≡◌, ℕ, ◌*◌, ◌<◌, ◌↔◌, List, [], ◌∷◌, ◌++◌, map, reverse, length, slice_index_or}
use Rattle.std.specs.List.Sorted.{IsPermutation}
use Rattle.label.specs.Theorems.{Tells}
use Rattle.label.specs.Truth.{Holds}
use Rattle.label.specs.declared.verdict.Verdict.{Verdict}
use Rattle.sheet.specs.Formulas.{Formula}
use Rattle.register.specs.Calls.{Call, peeking, Answer, verdicts, noted}
use Rattle.register.specs.Contents.{Content, mirrored, Trace, activator, target, coded_trace}
use Rattle.register.specs.Journal.{journal_after, instants, Answers}
use Rattle.register.specs.Limits.{millionths}
use Rattle.register.specs.State.{state, fresh, next, reply}
use Rattle.register.specs.Sums.{no_figures}
use Rattle.register.specs.Tallies.{Figured, Spotless}
use Rattle.register.specs.declared.figures.Figures.{Figures}
use Rattle.register.specs.declared.register.Register.{Register}

-- The register was made with this sheet and this mark and then asked exactly these calls, the oldest first, each from what the
-- one before had left. It covers every register value with the right state, so more than a program can make.
pub data History (c : Content) (mark : ℕ) : List Call → Register → Type 0 where
  made : {r : Register} → state r ≡ fresh c mark → History c mark [] r
  asked : {calls : List Call} {r s : Register} (call : Call)
      → History c mark calls r → state s ≡ next (state r) call → History c mark (calls ++ (call ∷ [])) s

-- A verdict that no continuation of the trace changes: a yes or no is the truth value at instant i of every trace that begins
-- with the readings of rs, whatever readings follow, those of faultless traces among them.
abbrev pub Foresees : Verdict → Formula → Trace → ℕ → Type 0
Foresees v f rs i = (more : Trace) → Tells v (Holds (rs ++ more) f i)

-- the figures that a register holds of the rule numbered k
abbrev pub figures_of : Register → ℕ → Figures
figures_of r k = slice_index_or (state r).held.sums k no_figures

-- The law: what holds after these calls, the refused ones among them. Tallies, triggered traces and degrees are counted over
-- truth itself, over the traces that the journal has taken in or closed; a peek that is not refused foresees the truth; any
-- register on the mirrored sheet whose traces are the reversed ones, each as often and in any order, holds the same figures;
-- and the degrees are full exactly when every trace is spotless.
pub record Law (c : Content) (mark : ℕ) (calls : List Call) (r : Register) : Type 0 where
  pub past : History c mark calls r
  pub tallies : (k : ℕ) → k < length c.rules
      → Figured (activator c k) (target c k) (journal_after c mark calls).traces (figures_of r k)
  pub sizes : ((state r).held.traces ≡ length (journal_after c mark calls).traces)
      × ((state r).held.instants ≡ instants (journal_after c mark calls).traces)
  pub peeks : (s k i : ℕ) (v w : Verdict)
      → Answers (journal_after c mark calls) (peeking s k i) (verdicts v w)
      → Foresees v (activator c k) (coded_trace (noted (journal_after c mark calls).opened)) i
      × Foresees w (target c k) (coded_trace (noted (journal_after c mark calls).opened)) i
  pub mirrors : (other_mark : ℕ) (others : List Call) (s : Register)
      → History (mirrored c) other_mark others s
      → IsPermutation (map reverse (journal_after c mark calls).traces) (journal_after (mirrored c) other_mark others).traces
      → (k : ℕ) → figures_of s k ≡ figures_of r k
  pub degrees : (k : ℕ) → k < length c.rules
      → ((figures_of r k).degrees ≡ millionths * (state r).held.traces)
      ↔ Spotless (activator c k) (target c k) (journal_after c mark calls).traces

-- One call after these, which left s and gave the answer a: the answer is the journal's, and the law holds before and after it.
pub record Run (c : Content) (mark : ℕ) (calls : List Call) (r : Register) (call : Call) (s : Register) (a : Answer) : Type 0 where
  pub told : Answers (journal_after c mark calls) call a
  pub before : Law c mark calls r
  pub after : Law c mark (calls ++ (call ∷ [])) s

-- The whole contract of a call on the register r, which left s and gave the answer a: the exact next state, the exact answer,
-- and, for every sheet, mark and list of calls that r may have behind it, the law of runs.
pub record Asked (r : Register) (call : Call) (s : Register) (a : Answer) : Type 0 where
  pub after : state s ≡ next (state r) call
  pub answers : a ≡ reply (state r) call
  pub lawful : (c : Content) (mark : ℕ) (calls : List Call) → History c mark calls r → Run c mark calls r call s a

-- The law of runs itself: for every sheet, mark and list of calls, it holds of every register with that history.
abbrev pub LawOfRuns : Type 0
LawOfRuns = (c : Content) (mark : ℕ) (calls : List Call) (r : Register) → History c mark calls r → Law c mark calls r

-- The whole contract of making a register: its exact state, the law with no call behind it, and the law of all runs to come.
pub record Begun (c : Content) (mark : ℕ) (r : Register) : Type 0 where
  pub state_is : state r ≡ fresh c mark
  pub lawful : Law c mark [] r
  pub runs : LawOfRuns
