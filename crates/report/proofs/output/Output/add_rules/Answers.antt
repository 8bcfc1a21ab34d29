-- What `add_rules` needs and the search leaves open.
use Rattle.std.proofs.Common.{◌≡◌, ℕ, ◌+◌, ◌-◌, ◌<◌, List, ◌++◌, length, vec_items, vec_len, sym, ap, ◌∙◌, append_assoc, arith}
use Rattle.lines.specs.Lines.{written, rule}
use Rattle.register.specs.History.{figures_of}
use Rattle.register.specs.State.{state}
use Rattle.register.specs.Sums.{telling}
use Rattle.register.specs.declared.figures.Told.{Told}
use Rattle.report.specs.Counts.{sheet_of}
use Rattle.report.specs.Output.{rule_lines}
use Rattle.report.specs.declared.output.Output.{Output}
use Rattle.report.proofs.Ending.{readable, lines_step}
use Rattle.report.proofs.output.Output.add_rules.Goals as goal
use Rattle.report.proofs.output.Output.add_rules.Goals.{in-Ok, in_default}

pub loop-k-preserved : goal.loop-k-preserved
loop-k-preserved c =
    let r = c.args.register.now in
    let k = c.loop-k.k in
    let f = figures_of r in
    let before : List ℕ = vec_items c.loop-k.self.bytes in
    let lt : k < length (sheet_of r).rules = omega (arith, c.requires.all, c.loop-k-test.true) in
    let is = readable (state r) k c.read.result lt c.read.ensures.called.answers in
    let left : List ℕ = rule_lines (k + 1) (c.args.rules - (k + 1)) f in
    elim c.match-read.branch [
      | in-Ok w ↦
          let told : w.in-Ok.told ≡ telling (f k) (state r).held.traces (state r).held.instants = cc in
          let line : written w.rule_line.result ≡ rule k (f k) = w.rule_line.ensures ∙ ap (λ (t : Told). rule k t.figures) told in
          let items : vec_items c.match-read.self.bytes ≡ before ++ written w.rule_line.result
          = ap (λ (o : Output). vec_items o.bytes) w.self-is ∙ w.add_line.ensures.items in
          let len : vec_len c.match-read.self.bytes ≡ vec_len c.loop-k.self.bytes + length (written w.rule_line.result)
          = ap (λ (o : Output). vec_len o.bytes) w.self-is ∙ w.add_line.ensures.len in (
            omega (arith, w.add_line.ensures.short, c.loop-k.invariant.0, c.loop-k-test.true),
            ap (λ (x : List ℕ). x ++ left) items
                ∙ append_assoc before (written w.rule_line.result) left
                ∙ ap (λ (x : List ℕ). before ++ (x ++ left)) line
                ∙ ap (λ (x : List ℕ). before ++ x) (sym (lines_step f k c.args.rules c.loop-k-test.true))
                ∙ c.loop-k.invariant.1,
          )
      | in_default w ↦ let e = w.in_default.is in let z : ◌≡◌ {A = ℕ} 0 1 = cc in absurd (omega arith)
    ]
