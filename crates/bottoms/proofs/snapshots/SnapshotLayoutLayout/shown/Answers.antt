use Rattle.std.proofs.Common.{◌*◌, ◌/◌, length, refl, sym, ap, ◌∙◌, arith, Some}
use Rattle.std.specs.List.{slice_get}
use Rattle.std.proofs.lemmas.Option.{slice_get_read}
use Rattle.std.proofs.lemmas.Bool.{eqb-false, eqb-true}
use Rattle.bottoms.proofs.Layouts.{shown_pair, shown_lone, shown_none}
use Rattle.bottoms.proofs.snapshots.SnapshotLayoutLayout.shown.Goals as goal
use Rattle.bottoms.proofs.snapshots.SnapshotLayoutLayout.shown.Goals.{else-index-pairs-via-then-index-pairs+else-not-is_empty, else-index-pairs-via-else-index-pairs}

pub returns-in-Some : goal.returns-in-Some
returns-in-Some c =
    let bs = c.args.bytes.now in
    let cs = c.as_chunks.result.0.now in
    let l = c.in-Some.ensures.lookup in
    let found = slice_get_read cs (length cs) c.args.index c.in-Some.pair.now refl l.3.0 l.1 in
    ap Some c.snapshot_reading.ensures ∙ shown_pair 0 (length bs / 2) bs c.args.index c.in-Some.pair.now (omega arith) (ap (λ ds. slice_get ds c.args.index) (sym c.as_chunks.ensures.front) ∙ found)

pub returns-then-not-is_empty : goal.returns-then-not-is_empty
returns-then-not-is_empty c =
    let bs = c.args.bytes.now in
    let one = eqb-false (length c.as_chunks.result.1.now) 0 (sym c.is_empty.ensures ∙ c.if-not-is_empty.true) in
    ap Some c.at.ensures ∙ shown_lone 0 (2 * c.args.index) bs c.args.index (omega arith) (omega (arith, one, c.if-index-pairs.true, c.as_chunks.ensures.front_len, c.as_chunks.ensures.back_len))

pub returns-else-index-pairs : goal.returns-else-index-pairs
returns-else-index-pairs c =
    let bs = c.args.bytes.now in
    let past = c.in_default.ensures.lookup.3 in
    shown_none 0 bs c.args.index (elim c.else-index-pairs.branch [
      | else-index-pairs-via-then-index-pairs+else-not-is_empty w ↦ let none = eqb-true (length c.as_chunks.result.1.now) 0 (sym w.is_empty.ensures ∙ w.if-not-is_empty.false) in omega (arith, past, none, w.if-index-pairs.true, c.as_chunks.ensures.front_len, c.as_chunks.ensures.back_len)
      | else-index-pairs-via-else-index-pairs w ↦ omega (arith, past, w.if-index-pairs.false, c.as_chunks.ensures.front_len, c.as_chunks.ensures.back_len)
    ])
