-- What `copy_figures` needs and the search leaves open.
use Rattle.std.proofs.Common.{◌≡◌, ℕ, suc, ◌+◌, ◌<◌, List, ◌++◌, length, get_or, take, drop, set, ◌∙◌, arith, length-take-le}
use Rattle.register.specs.State.{state}
use Rattle.register.specs.Sums.{no_figures, telling}
use Rattle.register.specs.declared.figures.Figures.{Figures}
use Rattle.report.specs.Counts.{sheet_of}
use Rattle.report.proofs.Ending.{readable}
use Rattle.exports.proofs.Fills.{put_next}
use Rattle.exports.proofs.taking.copy_figures.Goals as goal
use Rattle.exports.proofs.taking.copy_figures.Goals.{in-Ok, in_default}

pub loop-k-preserved : goal.loop-k-preserved
loop-k-preserved c =
    let r = c.args.register.now in
    let k = c.loop-k.k in
    let sums : List Figures = (state r).held.sums in
    let was : List Figures = take c.args.rules c.args.figures.now in
    let many : length was ≡ c.args.rules = length-take-le c.args.rules c.args.figures.now c.requires.room in
    let lt : k < length (sheet_of r).rules = omega (arith, c.requires.all, many, c.loop-k-test.true) in
    let is = readable (state r) k c.read.result lt c.read.ensures.called.answers in
    let on : suc k ≡ k + 1 = omega arith in
    elim c.match-read.branch [
      | in-Ok w ↦
          let told : w.in-Ok.told ≡ telling (get_or sums k no_figures) (state r).held.traces (state r).held.instants = cc in
          w.front-is ∙ (λ i. set (c.loop-k.invariant i) k (told i).figures)
          ∙ put_next sums was no_figures k (omega (arith, lt, r.totals.level, r.totals.figures.ok.0, r.totals.sheet.rules.ok.0)) c.loop-k-test.true
          ∙ (λ i. take (on i) sums ++ drop (on i) was)
      | in_default w ↦ let e = w.in_default.is in let z : ◌≡◌ {A = ℕ} 0 1 = cc in absurd (omega arith)
    ]
