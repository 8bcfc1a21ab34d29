-- What one turn of the loop over a log's records keeps.
use Rattle.std.proofs.Common.{◌≡◌, ℕ, zero, suc, ◌+◌, ◌-◌, ◌*◌, ◌<◌, ◌≤◌, List, [], ◌∷◌, ◌++◌, length, Some, None, Ok, Err, Option, Result, sym, refl, ap, ◌∙◌, subst, append_assoc, append-nil, arith, length-append}
use Rattle.std.proofs.lemmas.List.Sums.{fold_push, sum_by_push}
use Rattle.logfile.specs.Log.{Found, at_end, refused, got, found, moved, after, onward, walk, answers}
use Rattle.logfile.specs.Refusals.{bad_record}
use Rattle.logfile.specs.declared.record.Kind.{Kind}
use Rattle.register.specs.Answers.{of_counted}
use Rattle.register.specs.Calls.{Call, taking_in, unless, counted}
use Rattle.register.specs.Contents.{Content, Trace}
use Rattle.register.specs.History.{History, made as begun, Asked, Begun}
use Rattle.register.specs.Journal.{Journal, blank_journal, journal_refusal, journal_after, accepted, step, instants, Judged}
use Rattle.register.specs.Refusals.{code}
use Rattle.register.specs.State.{State, state, next, changed, state_refusal}
use Rattle.register.specs.declared.refusal.Refusal.{Refusal}
use Rattle.register.specs.declared.register.Register.{Register}
use Rattle.bottoms.specs.Bounds.{bounded_few}
use Rattle.bottoms.specs.Records.{codes, snapshots, runs}
use Rattle.lines.specs.Lines.{refused_record}
use Rattle.logfile.specs.declared.record.Kind.TheVariants.{Codes, Snapshots, Runs}
use Rattle.report.specs.Counts.{sheet_of, Brief, traces_on, instants_on, counted_on, Logged}
use Rattle.report.specs.Limits.{max_log, record_line, strip_cells}
use Rattle.report.specs.Output.{shown, note, notes, stopped, stop_line}
use Rattle.report.specs.Traces.{trace_of, taking, takings}
use Rattle.report.specs.declared.records.Count.{Count}

-- the answers that are left to a reader at p after n records
abbrev pub Rest : List ℕ → ℕ → ℕ → List Found
Rest log n p = walk (length log + 1 - n) log p

walk_step : (k : ℕ) (file : List ℕ) (p : ℕ) (a : Found) → 0 < k → found file p ≡ a → walk k file p ≡ a ∷ onward (walk (k - 1) file) p a
walk_step zero file p a h e = absurd (omega arith)
walk_step (suc k) file p a h e =
    let back : k ≡ suc k - 1 = omega arith in
    λ i. e i ∷ onward (walk (back i) file) p (e i)

rest_step : (log : List ℕ) (n p : ℕ) (a : Found) → n ≤ length log → found log p ≡ a → Rest log n p ≡ a ∷ onward (Rest log (n + 1)) p a
rest_step log n p a h e =
    let down : length log + 1 - n - 1 ≡ length log + 1 - (n + 1) = omega arith in
    walk_step (length log + 1 - n) log p a (omega arith) e ∙ ap (λ k. a ∷ onward (walk k log) p a) down

-- After n records the reader is at p: the register has taken in those of them that are not refused, these are counted, and the
-- refusals are written; what is left gives the rest of the lines.
pub record Sofar (c : Content) (log : List ℕ) (r : Register) (k : Count) (out : List ℕ) (p : ℕ) : Type 0 where
  pub within : p ≤ length log
  pub turns : 4 * k.records ≤ p
  pub short : length out ≤ record_line * k.records
  pub past : List Call
  pub history : History c 0 past r
  pub kept : sheet_of r ≡ c
  pub traces : k.traces ≡ length (journal_after c 0 past).traces
  pub instants_are : k.instants ≡ instants (journal_after c 0 past).traces
  pub few : k.traces ≤ k.records
  pub light : k.instants ≤ 1024 * k.records
  pub told : out ++ notes (k.records + 1) (journal_after c 0 past) (takings (Rest log k.records p))
      ≡ notes 1 (blank_journal c 0) (takings (answers log))
  pub made : past ++ takings (Rest log k.records p) ≡ takings (answers log)
  pub stops : stop_line (Rest log k.records p) ≡ stop_line (answers log)

-- the two sides of a call's answer: it is the refusal told, or it is what is granted
abbrev Told : Option Refusal → ℕ → Result ℕ Refusal → Type 0
Told o n a = Judged o (of_counted a) (of_counted a ≡ counted n)

-- The line of a record is that of its answer.
note_shown : (n m : ℕ) (o : Option Refusal) (a : Result ℕ Refusal) → Told o m a
    → unless o (λ why. refused_record n (code why).number) [] ≡ shown n a
note_shown n m (Some why) (Ok k) t = let z : ◌≡◌ {A = ℕ} 0 1 = cc in absurd (omega arith)
note_shown n m (Some why) (Err e) t = let same : code e ≡ code why = cc in ap (λ x. refused_record n x.number) (sym same)
note_shown n m None (Ok k) t = refl
note_shown n m None (Err e) t = let z : ◌≡◌ {A = ℕ} 0 1 = cc in absurd (omega arith)

-- An answer that is not refused is the number of instants.
pub brief : (o : Option Refusal) (m : ℕ) (a : Result ℕ Refusal) → m ≤ 1024 → Told o m a → Brief a
brief (Some why) m (Ok k) le t = let z : ◌≡◌ {A = ℕ} 0 1 = cc in absurd (omega arith)
brief (Some why) m (Err e) le t = tt
brief None m (Ok k) le t = let same : k ≡ m = cc in omega arith
brief None m (Err e) le t = tt

-- The trace of a record has at most 1,024 instants.
pub trace_few : (kind : Kind) (body : List ℕ) → length (trace_of kind body) ≤ 1024
trace_few Codes body = bounded_few (codes 0 body)
trace_few Snapshots body = bounded_few (snapshots 0 body)
trace_few Runs body = bounded_few (runs 0 body)

-- The counts follow the journal.
module _ (j : Journal) (rs : Trace) (cells t i : ℕ) (same : t ≡ length j.traces) (sum : i ≡ instants j.traces) where
  traces-follow : (o : Option Refusal) (a : Result ℕ Refusal) → Told o (length rs) a
      → traces_on t a ≡ length (unless o (λ _. j) (accepted j (taking_in rs cells))).traces
  traces-follow (Some why) (Ok k) h = let z : ◌≡◌ {A = ℕ} 0 1 = cc in absurd (omega arith)
  traces-follow (Some why) (Err e) h = same
  traces-follow None (Ok k) h = omega (arith, same, length-append j.traces (rs ∷ []))
  traces-follow None (Err e) h = let z : ◌≡◌ {A = ℕ} 0 1 = cc in absurd (omega arith)

  instants-follow : (o : Option Refusal) (a : Result ℕ Refusal) → Told o (length rs) a
      → instants_on i a ≡ instants (unless o (λ _. j) (accepted j (taking_in rs cells))).traces
  instants-follow (Some why) (Ok k) h = let z : ◌≡◌ {A = ℕ} 0 1 = cc in absurd (omega arith)
  instants-follow (Some why) (Err e) h = sum
  instants-follow None (Ok k) h =
      let size : k ≡ length rs = cc in
      omega (arith, sum, sum_by_push (λ (x : Trace). length x) j.traces rs)
  instants-follow None (Err e) h = let z : ◌≡◌ {A = ℕ} 0 1 = cc in absurd (omega arith)

-- Taking in a trace leaves the sheet as it was.
content_kept : (v : State) (rs : Trace) (cells : ℕ) → (next v (taking_in rs cells)).held.content ≡ v.held.content
content_kept v rs cells =
    elim (state_refusal v (taking_in rs cells)) as (λ o. (unless o (λ _. v) (changed v (taking_in rs cells))).held.content ≡ v.held.content)
    [ Some why ↦ refl | None ↦ refl ]

instants_light : (i n : ℕ) (a : Result ℕ Refusal) → Brief a → i ≤ 1024 * n → instants_on i a ≤ 1024 * (n + 1)
instants_light i n (Ok k) b le = omega (arith, b)
instants_light i n (Err e) b le = omega arith

traces_few : (t n : ℕ) (a : Result ℕ Refusal) → t ≤ n → traces_on t a ≤ n + 1
traces_few t n (Ok k) le = omega arith
traces_few t n (Err e) le = omega arith

-- Before the first record.
pub start : (c : Content) (log : List ℕ) (r : Register) (out : List ℕ) → Begun c 0 r → out ≡ [] → Sofar c log r (record { records = 0; traces = 0; instants = 0 }) out 0
start c log r out b e =
    let fuel : length log + 1 - 0 ≡ length log + 1 = omega arith in
    let same : Rest log 0 0 ≡ answers log = ap (λ (k : ℕ). walk k log 0) fuel in
    record {
      within = omega arith;
      turns = omega arith;
      short = omega (arith, ap length e);
      past = [];
      history = begun b.state_is;
      kept = ap (λ (v : State). v.held.content) b.state_is;
      traces = refl;
      instants_are = refl;
      few = omega arith;
      light = omega arith;
      told = ap (λ (o : List ℕ). o ++ notes 1 (blank_journal c 0) (takings (Rest log 0 0))) e ∙ ap (λ (fs : List Found). notes 1 (blank_journal c 0) (takings fs)) same;
      made = ap takings same;
      stops = ap stop_line same;
    }

module _ (c : Content) (log : List ℕ) (r : Register) (k : Count) (out : List ℕ) (p : ℕ) (s : Sofar c log r k out p) where
  -- the answers that are left, once the next is known
  opened : (a : Found) → found log p ≡ a → Rest log k.records p ≡ a ∷ onward (Rest log (k.records + 1)) p a
  opened a e = rest_step log k.records p a (omega (arith, s.within, s.turns)) e

  -- One more record.
  pub turn : (kind : Kind) (body : List ℕ) (q : ℕ) → found log p ≡ got kind body q → p + 4 + length body ≤ length log
      → (r' : Register) (a : Result ℕ Refusal) → Asked r (taking kind body) r' (of_counted a)
      → (out' : List ℕ) → out' ≡ out ++ shown (k.records + 1) a → length out' ≤ length out + record_line
      → Sofar c log r' (counted_on k a) out' (p + 4 + length body)
  turn kind body q e h r' a asked out' grown longer =
      let call : Call = taking kind body in
      let run = asked.lawful c 0 s.past s.history in
      let j : Journal = journal_after c 0 s.past in
      let stepped : journal_after c 0 (s.past ++ (call ∷ [])) ≡ step j call = fold_push step (blank_journal c 0) s.past call in
      let left : List Found = Rest log (k.records + 1) (p + 4 + length body) in
      let split : Rest log k.records p ≡ got kind body q ∷ left = opened (got kind body q) e in
      let line : note (k.records + 1) j call ≡ shown (k.records + 1) a = note_shown (k.records + 1) (length (trace_of kind body)) (journal_refusal j call) a run.told in
      record {
        within = h;
        turns = omega (arith, s.turns);
        short = omega (arith, s.short, longer);
        past = s.past ++ (call ∷ []);
        history = run.after.past;
        kept = ap (λ (v : State). v.held.content) asked.after ∙ content_kept (state r) (trace_of kind body) strip_cells ∙ s.kept;
        traces = traces-follow j (trace_of kind body) strip_cells k.traces k.instants s.traces s.instants_are (journal_refusal j call) a run.told
            ∙ ap (λ (x : Journal). length x.traces) (sym stepped);
        instants_are = instants-follow j (trace_of kind body) strip_cells k.traces k.instants s.traces s.instants_are (journal_refusal j call) a run.told
            ∙ ap (λ (x : Journal). instants x.traces) (sym stepped);
        few = traces_few k.traces k.records a s.few;
        light = instants_light k.instants k.records a (brief (journal_refusal j call) (length (trace_of kind body)) a (trace_few kind body) run.told) s.light;
        told =
            ap (λ (o : List ℕ). o ++ notes (k.records + 1 + 1) (journal_after c 0 (s.past ++ (call ∷ []))) (takings left)) grown
            ∙ append_assoc out (shown (k.records + 1) a) (notes (k.records + 1 + 1) (journal_after c 0 (s.past ++ (call ∷ []))) (takings left))
            ∙ ap (λ (x : Journal). out ++ (shown (k.records + 1) a ++ notes (k.records + 1 + 1) x (takings left))) stepped
            ∙ ap (λ (x : List ℕ). out ++ (x ++ notes (k.records + 1 + 1) (step j call) (takings left))) (sym line)
            ∙ ap (λ (fs : List Found). out ++ notes (k.records + 1) j (takings fs)) (sym split)
            ∙ s.told;
        made = append_assoc s.past (call ∷ []) (takings left) ∙ ap (λ (fs : List Found). s.past ++ takings fs) (sym split) ∙ s.made;
        stops = ap stop_line (sym split) ∙ s.stops;
      }

  -- No record is left.
  finish : (a : Found) → found log p ≡ a → takings (a ∷ onward (Rest log (k.records + 1)) p a) ≡ []
      → (stop : Option ℕ) → stopped stop ≡ stop_line (a ∷ onward (Rest log (k.records + 1)) p a) → length log ≤ max_log
      → Logged c log r k stop out
  finish a e none stop line fits =
      let split = opened a e in
      let nothing : takings (Rest log k.records p) ≡ [] = ap takings split ∙ none in
      let calls : s.past ≡ takings (answers log) = sym (append-nil s.past) ∙ ap (λ (x : List Call). s.past ++ x) (sym nothing) ∙ s.made in
      record {
        past = subst (λ (x : List Call). History c 0 x r) calls s.history;
        kept = s.kept;
        traces = s.traces ∙ ap (λ (x : List Call). length (journal_after c 0 x).traces) calls;
        instants_are = s.instants_are ∙ ap (λ (x : List Call). instants (journal_after c 0 x).traces) calls;
        lines = sym (append-nil out) ∙ ap (λ (x : List Call). out ++ notes (k.records + 1) (journal_after c 0 s.past) x) (sym nothing) ∙ s.told;
        stops = line ∙ ap stop_line (sym split) ∙ s.stops;
        short = omega (arith, s.short, s.turns, s.within);
      }

  -- At the file's end.
  pub ended : found log p ≡ at_end → length log ≤ max_log → Logged c log r k None out
  ended e fits = finish at_end e refl None refl fits

  -- At a record that cannot be read.
  pub stopped_at : (place : ℕ) → found log p ≡ refused (bad_record place) → length log ≤ max_log → Logged c log r k (Some place) out
  stopped_at place e fits = finish (refused (bad_record place)) e refl (Some place) refl fits

-- What a reader's answer of a record says of the log and of where the reader then stands.
pub record Met (log : List ℕ) (p p' : ℕ) (kind : Kind) (body : List ℕ) (place : ℕ) : Type 0 where
  pub there : found log p ≡ got kind body place
  pub onward_to : p' ≡ p + 4 + length body
  pub inside : p + 4 + length body ≤ length log

pub met : (log file file' : List ℕ) (p p' : ℕ) (kind : Kind) (body : List ℕ) (place : ℕ) → file ≡ log → got kind body place ≡ found file p
    → p' ≡ after file p → file' ≡ file → p' ≤ length file' → Met log p p' kind body place
met log file file' p p' kind body place same value at file-kept le =
    let there = ap (λ (f : List ℕ). found f p) (sym same) ∙ sym value in
    let at-is : p' ≡ p + 4 + length body = at ∙ ap (moved p) (sym value) in
    record { there = there; onward_to = at-is; inside = omega (arith, at-is, le, ap length file-kept, ap length same) }
