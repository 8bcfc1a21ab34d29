-- What `add_row` needs and the search leaves open.
use Rattle.std.proofs.Common.{◌≡◌, List, [], ◌∷◌, ◌++◌, length, Ok, Err, vec_items, vec_len, sym, ap, ◌∙◌, zero-add, arith, rules}
use Rattle.sheet.specs.Rows.{there, row_class}
use Rattle.sheet.specs.Sheets.{formed, classes_of, ruled}
use Rattle.sheet.specs.declared.row.Class.{Class}
use Rattle.sheet.proofs.Built.{formed_push, classes_push, ruled_more}
use Rattle.sheet.proofs.Sheeted.{fits, row_answered}
use Rattle.sheet.proofs.sheet.Sheet.add_row.Goals as goal

pub returns-in-Some-clause-means : goal.returns-in-Some-clause-means
returns-in-Some-clause-means c = row_answered (vec_items c.args.self.now.rows) c.args.row (Err c.in-Some.refusal) (search rules)

pub push_reserved-requires : goal.push_reserved-requires
push_reserved-requires c =
    let sheet = c.args.self.now in
    let room = (fits sheet c.deref.result.now c.args.row c.deref.ensures.value c.in_default.ensures).room in
    omega (arith, sheet.rows.ok.0, sheet.rows_room)

pub invariant_of-self-clause-shape : goal.invariant_of-self-clause-shape
invariant_of-self-clause-shape c =
    let sheet = c.args.self.now in
    let rows = vec_items sheet.rows in
    let fit = fits sheet c.deref.result.now c.args.row c.deref.ensures.value c.in_default.ensures in
    ap formed c.push_reserved.ensures.items ∙ formed_push [] rows c.args.row sheet.shape (ap (λ k. there k c.args.row) (zero-add (length rows)) ∙ fit.operands) fit.classes

pub invariant_of-self-clause-sorts : goal.invariant_of-self-clause-sorts
invariant_of-self-clause-sorts c =
    let sheet = c.args.self.now in
    let rows = vec_items sheet.rows in
    let row = c.args.row in
    let e : c.class_of-class.result ≡ row_class (classes_of rows) row = c.class_of-class.ensures ∙ ap (λ (k : List Class). row_class k row) (c.deref-2.ensures.value ∙ sheet.sorts) in
    c.push_reserved-2.ensures.items ∙ (ap (λ (k : List Class). k ++ c.class_of-class.result ∷ []) sheet.sorts
    ∙ (ap (λ k. classes_of rows ++ k ∷ []) e ∙ (sym (classes_push rows row) ∙ ap classes_of (sym c.push_reserved.ensures.items))))

pub invariant_of-self-clause-pairs : goal.invariant_of-self-clause-pairs
invariant_of-self-clause-pairs c =
    let sheet = c.args.self.now in
    ap (λ k. ruled k (vec_items sheet.rules)) c.push_reserved.ensures.len ∙ ruled_more (vec_len sheet.rows) (vec_items sheet.rules) sheet.pairs

pub invariant_of-self-clause-few : goal.invariant_of-self-clause-few
invariant_of-self-clause-few c =
    let sheet = c.args.self.now in
    let room = (fits sheet c.deref.result.now c.args.row c.deref.ensures.value c.in_default.ensures).room in
    omega (arith, sheet.rows.ok.0)

pub returns-clause-means : goal.returns-clause-means
returns-clause-means c = row_answered (vec_items c.args.self.now.rows) c.args.row (Ok c.len-count.result) (search rules)
