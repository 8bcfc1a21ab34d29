-- What is left to show of `of`.
use Rattle.std.proofs.Common.{List, ◌++◌, length, vec_items, sym, ap, ◌∙◌, subst, arith}
use Rattle.sheet.specs.Sheets.{classes_of}
use Rattle.sheet.specs.declared.row.Row.{Row}
use Rattle.sheet.specs.declared.row.Class.{Class}
use Rattle.sheet.proofs.Built.{length_classes}
use Rattle.text.specs.Follow.{Follow}
use Rattle.text.proofs.Puts.{follow_formed}
use Rattle.text.proofs.draft.Draft.of.Goals as goal

pub unwrap-requires-2 : goal.unwrap-requires-2
unwrap-requires-2 c =
    let few = c.rows.ensures.formed.few_rows in
    let same = ap length c.classes.ensures.sorts ∙ length_classes (vec_items c.args.sheet.now.rows) in
    let none = ap length c.new-classes.ensures in
    c.try_extend_from_slice-2.ensures.variant.1 (grind arith)

pub invariant_of-result : goal.invariant_of-result
invariant_of-result c =
    let rows = (rw c.unwrap.ensures at c.try_extend_from_slice.ensures.ok) ∙ ap (λ (xs : List Row). xs ++ c.rows.result.now) c.new-rows.ensures in
    let classes = (rw c.unwrap-2.ensures at c.try_extend_from_slice-2.ensures.ok) ∙ ap (λ (xs : List Class). xs ++ c.classes.result.now) c.new-classes.ensures in
    record {
      sorts = classes ∙ (c.classes.ensures.sorts ∙ ap classes_of (sym (rows ∙ c.rows.ensures.value)));
      follow = subst Follow (sym (rows ∙ c.rows.ensures.value)) (follow_formed (vec_items c.args.sheet.now.rows) c.args.sheet.now.shape c.rows.ensures.formed.few_rows);
    }
