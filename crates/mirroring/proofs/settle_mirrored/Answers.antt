-- What `settle_mirrored` needs and the search leaves open.
use Rattle.std.proofs.Common.{◌≡◌, List, map, length, vec_items, vec_len, sym, ap, ◌∙◌}
use Rattle.sheet.specs.Rows.{mirror_row}
use Rattle.sheet.specs.declared.row.Row.{Row}
use Rattle.layers.specs.Bounds.{length_reversed}
use Rattle.layers.specs.Layers.{reversed}
use Rattle.label.specs.Strips.{label_answer, labelled}
use Rattle.label.specs.declared.verdict.Verdict.TheVariants.{No}
use Rattle.mirroring.proofs.Backwards.{from_the_end}
use Rattle.mirroring.proofs.settle_mirrored.Goals as goal

pub returns-clause-mirror : goal.returns-clause-mirror
returns-clause-mirror g c =
    let sheet = c.args.sheet in
    let rs = g.S.Source.readings c.args.source in
    let o = c.settle.result in
    let was = c.args.strip.now in
    let strip = c.settle.new.strip in
    let mirrored = c.mirrored-mirrored.result in
    let many : vec_len mirrored.rows ≡ vec_len sheet.rows =
    mirrored.rows.ok.0 ∙ (c.mirrored-mirrored.ensures.formulas.count ∙ sym sheet.rows.ok.0) in
    let a : o ≡ label_answer (length rs) (vec_len sheet.rows) (length was) =
    c.settle.ensures.answer ∙ (ap (λ n. label_answer n (vec_len mirrored.rows) (length was)) (length_reversed rs) ∙ ap (λ m. label_answer (length rs) m (length was)) many) in
    let s : strip ≡ labelled o No (reversed rs) (map mirror_row (vec_items sheet.rows)) was =
    c.settle.ensures.cells ∙ ap (λ (rows : List Row). labelled o No (reversed rs) rows was) c.mirrored-mirrored.ensures.rows in
    from_the_end o rs (vec_items sheet.rows) (vec_len sheet.rows) (length was) was strip a s
