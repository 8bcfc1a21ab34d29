-- What `folded` needs and the search leaves open.
use Rattle.std.proofs.Common.{◌≡◌, ◌-◌, rules, arith}
use Rattle.evaluator.specs.Folds.{no_row, too_high, of_row}
use Rattle.evaluator.proofs.fold.+folded.Goals.{in-Some, in-None, in-Some-second, in-None-second}
use Rattle.evaluator.proofs.fold.+folded.Goals as goal

-- the row is not there
pub returns-then-number-rows : goal.returns-then-number-rows
returns-then-number-rows g t c = too_high c.if-number-rows.true

-- the row is there
pub returns : goal.returns
returns g t c =
    let before : c.args.number - 0 ≡ c.args.number = omega arith in
    of_row {p = c.parts-first.result} {a = c.match-first.a} {b = c.match-second.b} c.if-number-rows.false c.parts-first.ensures
    (elim c.match-first.branch [
      | in-Some w ↦ let same : w.from.result ≡ w.in-Some.a = search rules in rw (w.in-Some.is, w.a-is) (rw (same, before) at w.folded-a.ensures)
      | in-None w ↦ rw (w.in-None.is, w.a-is) no_row
    ])
    (elim c.match-second.branch [
      | in-Some-second w ↦ let same : w.from-in-Some-second.result ≡ w.in-Some-second.b = search rules in rw (w.in-Some-second.is, w.b-is) (rw (same, before) at w.folded-b.ensures)
      | in-None-second w ↦ rw (w.in-None-second.is, w.b-is) no_row
    ])
    c.of_row.ensures
