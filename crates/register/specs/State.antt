-- What a register holds, and what each call makes of it and answers: the exact outcome of each call, by itself.
use Rattle.std.specs.Prelude.{◌≡◌, ℕ, ◌+◌, true, cond, List, [], ◌∷◌, ◌++◌, map, length, Some, None, Ok, Err, vec_items, Option, Result, slice_index_or}
use Rattle.label.specs.Labels.{verdict}
use Rattle.label.specs.declared.verdict.Verdict.TheVariants.{Open}
use Rattle.register.specs.Calls.{Call, taking_in, opening, noting, peeking, closing, setting_aside, reading, Answer, refused, counted, slip, verdicts, figures, done, refusal, room, unless, noted, is_open}
use Rattle.register.specs.Contents.{Content, content, Trace, activator, target, coded_trace}
use Rattle.register.specs.Refusals.{code}
use Rattle.register.specs.Sums.{no_figures, own, added, telling}
use Rattle.register.specs.declared.figures.Figures.{Figures}
use Rattle.register.specs.declared.refusal.Refusal.{Refusal}
use Rattle.register.specs.declared.register.Register.{Register}
use Rattle.register.specs.declared.totals.Totals.{Totals}

-- a sheet with sums over traces: how many traces and instants there are, and each rule's figures
pub record Held : Type 0 where
  pub content : Content
  pub traces : ℕ
  pub instants : ℕ
  pub sums : List Figures

-- what the totals of a register hold
abbrev pub held : Totals → Held
held t = record { content = content t.sheet; traces = t.traces; instants = t.instants; sums = vec_items t.figures }

-- the sums with one more trace
abbrev pub with_trace : Held → Trace → Held
with_trace h rs = record {
  content = h.content;
  traces = h.traces + 1;
  instants = h.instants + length rs;
  sums = added (own h.content.rows rs) h.content.rules h.sums;
}

-- the sums at the beginning: no traces, all figures 0
abbrev pub nothing_held : Content → Held
nothing_held c = record { content = c; traces = 0; instants = 0; sums = map (λ _. no_figures) c.rules }

-- what adding a trace of n instants, with so many cells, answers
abbrev pub add_answer : Held → ℕ → ℕ → Result ℕ Refusal
add_answer h n cells = unless (room h.traces cells n (length h.content.rows)) (λ why. Err why) (Ok n)

-- the sums after the adding of a trace that gave this answer
abbrev pub held_after : Result ℕ Refusal → Held → Trace → Held
held_after (Ok n) h rs = with_trace h rs
held_after (Err why) h rs = h

-- what a register holds: its mark, the codes of the open trace, and its sums
pub record State : Type 0 where
  pub mark : ℕ
  pub opened : Option (List ℕ)
  pub held : Held

-- the state of a register
abbrev pub state : Register → State
state r = record { mark = r.mark; opened = cond r.live (Some (vec_items r.codes)) None; held = held r.totals }

-- a trace is open in the register, and a slip with the mark m is its slip
abbrev pub OpenFor : Register → ℕ → Type 0
OpenFor r m = ((state r).mark ≡ m) × (is_open (state r).opened ≡ true)

-- the state of a new register: no traces, none open, all figures 0
abbrev pub fresh : Content → ℕ → State
fresh c mark = record {
  mark = mark;
  opened = None;
  held = nothing_held c;
}

-- the state with another open trace
abbrev pub with_open : State → Option (List ℕ) → State
with_open v o = record { mark = v.mark; opened = o; held = v.held }

-- the state with one more trace added, and this trace open
abbrev pub traced : State → Trace → Option (List ℕ) → State
traced v rs o = record { mark = v.mark; opened = o; held = with_trace v.held rs }

-- the table of refusals, judged by the state
abbrev pub state_refusal : State → Call → Option Refusal
state_refusal v c =
    refusal (length v.held.content.rows) (length v.held.content.rules) v.mark v.held.traces v.opened c

-- what a call that is not refused makes of the state
abbrev pub changed : State → Call → State
changed v (taking_in rs cells) = traced v rs v.opened
changed v opening = with_open v (Some [])
changed v (noting s code) = with_open v (Some (noted v.opened ++ (code ∷ [])))
changed v (peeking s k i) = v
changed v (closing s cells) = traced v (coded_trace (noted v.opened)) None
changed v (setting_aside s) = with_open v None
changed v (reading k) = v

-- the state after a call; a refused one changes nothing
abbrev pub next : State → Call → State
next v c = unless (state_refusal v c) (λ _. v) (changed v c)

-- what a call that is not refused answers
abbrev pub given : State → Call → Answer
given v (taking_in rs cells) = counted (length rs)
given v opening = slip v.mark
given v (noting s code) = done
given v (peeking s k i) =
    verdicts (verdict Open (coded_trace (noted v.opened)) (activator v.held.content k) i) (verdict Open (coded_trace (noted v.opened)) (target v.held.content k) i)
given v (closing s cells) = counted (length (noted v.opened))
given v (setting_aside s) = done
given v (reading k) = figures (telling (slice_index_or v.held.sums k no_figures) v.held.traces v.held.instants)

-- what a call answers
abbrev pub reply : State → Call → Answer
reply v c = unless (state_refusal v c) (λ why. refused (code why)) (given v c)
