-- What `row_refusal` needs and the search leaves open.
use Rattle.std.proofs.Common.{true, false, length, sym, refl, ap}
use Rattle.std.proofs.lemmas.Bool.{lt-ltb, le-ltb}
use Rattle.sheet.specs.Rows.{there, separated}
use Rattle.sheet.specs.Sheets.{classes_of}
use Rattle.evaluator.specs.Looks.{number_of}
use Rattle.evaluator.proofs.Refused.{refused_by, opposite}
use Rattle.evaluator.proofs.refusals.row_refusal.Goals as goal

-- the sheet is full
pub returns-then-rows-ge-MOST_ROWS : goal.returns-then-rows-ge-MOST_ROWS
returns-then-rows-ge-MOST_ROWS c =
    let rows = c.args.rows.now in
    let is = refused_by rows c.args.row false (there (length rows) c.args.row) (separated (classes_of rows) c.args.row) (le-ltb (length rows) 32 c.if-rows-ge-MOST_ROWS.true) refl refl in
    record { value = is; number = ap number_of is }

-- an operand is not there
pub returns-then-not-has_operands : goal.returns-then-not-has_operands
returns-then-not-has_operands c =
    let rows = c.args.rows.now in
    let is = refused_by rows c.args.row true false (separated (classes_of rows) c.args.row) (lt-ltb (length rows) 32 c.if-rows-ge-MOST_ROWS.false) (sym c.if-not-has_operands.ensures) refl in
    record { value = is; number = ap number_of is }

-- an operand looks the other way
pub returns-then-is_unseparated : goal.returns-then-is_unseparated
returns-then-is_unseparated c =
    let rows = c.args.rows.now in
    let is = refused_by rows c.args.row true true false (lt-ltb (length rows) 32 c.if-rows-ge-MOST_ROWS.false) (sym c.if-not-has_operands.ensures) (opposite (separated (classes_of rows) c.args.row) true c.if-is_unseparated.ensures) in
    record { value = is; number = ap number_of is }

-- nothing stands against it
pub returns-else-is_unseparated : goal.returns-else-is_unseparated
returns-else-is_unseparated c =
    let rows = c.args.rows.now in
    let is = refused_by rows c.args.row true true true (lt-ltb (length rows) 32 c.if-rows-ge-MOST_ROWS.false) (sym c.if-not-has_operands.ensures) (opposite (separated (classes_of rows) c.args.row) false c.if-is_unseparated.ensures) in
    record { value = is; number = ap number_of is }
