-- What `standing` needs and the search leaves open.
use Rattle.std.proofs.Common.{◌≡◌, ℕ, ◌+◌, ◌-◌, ◌*◌, ◌<◌, ◌≤◌, length, get_or, vec_items, vec_len, ap, ◌∙◌, mul-le-mul, arith}
use Rattle.bottoms.specs.Records.{bounded, codes}
use Rattle.label.specs.Labels.{label_at}
use Rattle.label.specs.declared.verdict.Verdict.TheVariants.{No, Open}
use Rattle.register.specs.Contents.{coded_trace}
use Rattle.register.proofs.Laws.{coded_length}
use Rattle.register.proofs.Open.{codes_trace}
use Rattle.register.proofs.Stood.{stood}
use Rattle.register.proofs.standing.standing.Goals as goal

pub returns-clause-activator : goal.returns-clause-activator
returns-clause-activator c =
    let rows = vec_items c.args.sheet.now.rows in
    let m : length c.rows.result.now ≡ length rows = ap length c.rows.ensures.value in
    let trace : bounded (codes 0 c.new.result.bytes.now) ≡ coded_trace c.args.codes.now
    = ap (λ b. bounded (codes 0 b.now)) c.new.ensures ∙ codes_trace c.args.codes.now c.requires.coded c.requires.few in
    let long : length (bounded (codes 0 c.new.result.bytes.now)) ≡ length c.args.codes.now = ap length trace ∙ coded_length c.args.codes.now in
    let fit : length (bounded (codes 0 c.new.result.bytes.now)) * vec_len c.args.sheet.now.rows ≤ 32768
    = mul-le-mul {n₂ = 1024} {m₂ = 32} (omega arith) (omega (arith, c.args.sheet.now.few)) in
    let high : c.args.instant ≤ length (coded_trace c.args.codes.now) = omega (arith, coded_length c.args.codes.now) in
    let at : (r : ℕ) → r < length c.rows.result.now
    → get_or c.stand.new.strip ((c.args.instant - 1) * length c.rows.result.now + r) No ≡ label_at Open (coded_trace c.args.codes.now) (vec_items c.args.sheet.now.rows) c.args.instant r
    = λ r lt. stood _ (coded_trace c.args.codes.now) rows _ _ _ _ _ _ c.stand.ensures.answer fit c.stand.ensures.cells trace m c.args.instant r c.requires.low high lt in
    c.at-activator.ensures ∙ at c.args.rule.activator (omega (arith, c.requires.activator, c.args.sheet.now.rows.ok.0))

pub returns-clause-target : goal.returns-clause-target
returns-clause-target c =
    let rows = vec_items c.args.sheet.now.rows in
    let m : length c.rows.result.now ≡ length rows = ap length c.rows.ensures.value in
    let trace : bounded (codes 0 c.new.result.bytes.now) ≡ coded_trace c.args.codes.now
    = ap (λ b. bounded (codes 0 b.now)) c.new.ensures ∙ codes_trace c.args.codes.now c.requires.coded c.requires.few in
    let long : length (bounded (codes 0 c.new.result.bytes.now)) ≡ length c.args.codes.now = ap length trace ∙ coded_length c.args.codes.now in
    let fit : length (bounded (codes 0 c.new.result.bytes.now)) * vec_len c.args.sheet.now.rows ≤ 32768
    = mul-le-mul {n₂ = 1024} {m₂ = 32} (omega arith) (omega (arith, c.args.sheet.now.few)) in
    let high : c.args.instant ≤ length (coded_trace c.args.codes.now) = omega (arith, coded_length c.args.codes.now) in
    let at : (r : ℕ) → r < length c.rows.result.now
    → get_or c.stand.new.strip ((c.args.instant - 1) * length c.rows.result.now + r) No ≡ label_at Open (coded_trace c.args.codes.now) (vec_items c.args.sheet.now.rows) c.args.instant r
    = λ r lt. stood _ (coded_trace c.args.codes.now) rows _ _ _ _ _ _ c.stand.ensures.answer fit c.stand.ensures.cells trace m c.args.instant r c.requires.low high lt in
    c.at-target.ensures ∙ at c.args.rule.target (omega (arith, c.requires.target, c.args.sheet.now.rows.ok.0))
