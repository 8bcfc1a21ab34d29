-- What `read_log` needs and the search leaves open.
use Rattle.std.proofs.Common.{◌≡◌, ℕ, ◌+◌, List, ◌++◌, length, vec_items, sym, ap, ◌∙◌, subst, arith, rules}
use Rattle.logfile.specs.Log.{found, at_end, refused, got}
use Rattle.logfile.specs.Refusals.{bad_record}
use Rattle.register.specs.Answers.{of_counted}
use Rattle.register.specs.Calls.{taking_in}
use Rattle.register.specs.History.{Asked}
use Rattle.report.specs.Counts.{sheet_of, counted_on}
use Rattle.report.specs.Limits.{strip_cells}
use Rattle.report.specs.Output.{shown}
use Rattle.report.specs.Traces.{trace_of}
use Rattle.report.specs.declared.records.Count.{Count}
use Rattle.report.proofs.Walks.{Sofar, turn, ended, stopped_at, met, brief, trace_few}
use Rattle.report.proofs.log.read_log.Goals as goal

pub with-count-requires-clause-brief : goal.with-count-requires-clause-brief
with-count-requires-clause-brief c =
    let rec = c.in-Ok-Some.record in
    let s = c.loop-record.invariant.1 in
    let run = c.take_record-answer.ensures.lawful (sheet_of c.args.register.now) 0 s.past s.history in
    brief _ (length (trace_of rec.kind rec.body.now)) c.take_record-answer.result (trace_few rec.kind rec.body.now) run.told

pub loop-record-preserved : goal.loop-record-preserved
loop-record-preserved c =
    let log = c.args.log.now in
    let p = c.loop-record.reader.at in
    let rec = c.in-Ok-Some.record in
    let told = c.in-Ok-Some.ensures in
    let s = c.loop-record.invariant.1 in
    let k = c.loop-record.count in
    let a = c.take_record-answer.result in
    let r' = c.take_record-answer.new.register in
    let out' = vec_items c.add_refusal.new.self.bytes in
    let value : got rec.kind rec.body.now rec.place ≡ found c.loop-record.reader.file.now p = search rules in
    let m = met log c.loop-record.reader.file.now c.next.new.self.file.now p c.next.new.self.at rec.kind rec.body.now rec.place
    c.loop-record.invariant.0 value told.at told.file c.next.new.self.within in
    let cells : length c.loop-record.strip ≡ strip_cells = c.loop-record.auto.strip ∙ c.requires.cells in
    let asked = subst (λ (n : ℕ). Asked c.loop-record.register (taking_in (trace_of rec.kind rec.body.now) n) r' (of_counted a)) cells c.take_record-answer.ensures in
    let more : c.with-count.result.records ≡ k.records + 1 = ap (λ (x : Count). x.records) c.with-count.ensures in
    let grown : out' ≡ vec_items c.loop-record.out.bytes ++ shown (k.records + 1) a
    = c.add_refusal.ensures.items ∙ ap (λ (n : ℕ). vec_items c.loop-record.out.bytes ++ shown n a) more in (
      told.file ∙ c.loop-record.invariant.0,
      subst (λ (x : Count). Sofar (sheet_of c.args.register.now) log r' x out' c.next.new.self.at) (sym c.with-count.ensures)
          (subst (λ (q : ℕ). Sofar (sheet_of c.args.register.now) log r' (counted_on k a) out' q) (sym m.onward_to)
          (turn (sheet_of c.args.register.now) log c.loop-record.register k (vec_items c.loop-record.out.bytes) p s
          rec.kind rec.body.now rec.place m.there m.inside r' a asked out' grown
          (omega (arith, c.add_refusal.ensures.len, c.add_refusal.new.self.bytes.ok.0, c.loop-record.out.bytes.ok.0)))),
    )

pub returns-in-Ok-None : goal.returns-in-Ok-None
returns-in-Ok-None c =
    let log = c.args.log.now in
    let p = c.loop-record.reader.at in
    let over = ap (λ (f : List ℕ). found f p) (sym c.loop-record.invariant.0) in
    let value : at_end ≡ found c.loop-record.reader.file.now p = search rules in
    ended (sheet_of c.args.register.now) log c.loop-record.register c.loop-record.count (vec_items c.loop-record.out.bytes) p c.loop-record.invariant.1
    (over ∙ sym value) c.requires.short

pub returns-in-Err : goal.returns-in-Err
returns-in-Err c =
    let log = c.args.log.now in
    let p = c.loop-record.reader.at in
    let over = ap (λ (f : List ℕ). found f p) (sym c.loop-record.invariant.0) in
    let value : refused (bad_record c.in-Err.bad.place) ≡ found c.loop-record.reader.file.now p = search rules in
    stopped_at (sheet_of c.args.register.now) log c.loop-record.register c.loop-record.count (vec_items c.loop-record.out.bytes) p c.loop-record.invariant.1
    c.in-Err.bad.place (over ∙ sym value) c.requires.short
