-- What `mirrored` needs and the search leaves open.
use Rattle.std.proofs.Common.{[], map, vec_items, sym, ap, ◌∙◌}
use Rattle.sheet.specs.Classes.{mirror_class}
use Rattle.sheet.specs.Rows.{mirror_row}
use Rattle.sheet.specs.Sheets.{formed, classes_of}
use Rattle.sheet.proofs.Mirrors.{formed_mirror_from, classes_mirror, refilled_map, mirrors}
use Rattle.sheet.proofs.sheet.Sheet.mirrored.Goals as goal

pub invariant_of-result-clause-shape : goal.invariant_of-result-clause-shape
invariant_of-result-clause-shape c =
    let sheet = c.args.self in
    ap formed (refilled_map mirror_row sheet.rows _ _ c.mirror_all.ensures c.deref_mut.ensures.value) ∙ (formed_mirror_from [] (vec_items sheet.rows) ∙ sheet.shape)

pub invariant_of-result-clause-sorts : goal.invariant_of-result-clause-sorts
invariant_of-result-clause-sorts c =
    let sheet = c.args.self in
    refilled_map mirror_class sheet.classes _ _ c.mirror_all-2.ensures c.deref_mut-2.ensures.value
    ∙ (ap (map mirror_class) sheet.sorts ∙ (sym (classes_mirror (vec_items sheet.rows)) ∙ ap classes_of (sym (refilled_map mirror_row sheet.rows _ _ c.mirror_all.ensures c.deref_mut.ensures.value))))

pub returns-clause-formulas : goal.returns-clause-formulas
returns-clause-formulas c = mirrors (vec_items c.args.self.rows) _ (refilled_map mirror_row c.args.self.rows _ _ c.mirror_all.ensures c.deref_mut.ensures.value)
