use Rattle.std.proofs.Common.{◌≡◌, ◌-◌, ◌*◌, ◌/◌, [], ◌∷◌, Some, length, sym, ap, ◌∙◌, arith}
use Rattle.std.proofs.lemmas.Bool.{eqb-true}
use Rattle.std.specs.List.{slice_get}
use Rattle.trace.specs.Readings.{fault, cause_cut_short}
use Rattle.bottoms.specs.Records.{runs, lone}
use Rattle.bottoms.proofs.Walk.{from_first, lone_there, nth_here, nth_on, none_left, one_left, none_past, shown_at, none_at}
use Rattle.bottoms.proofs.runs.RunLayoutLayout.shown.Goals as goal
use Rattle.bottoms.proofs.runs.RunLayoutLayout.shown.Goals.{else-left-eq0-via-then-left-eq0+else-not-is_empty, else-left-eq0-via-else-left-eq0}

pub returns-then-left-count : goal.returns-then-left-count
returns-then-left-count c =
    let bs = c.args.bytes.now in
    let cs = c.as_chunks.result.0.now in
    let lo = c.as_chunks.result.1.now in
    let k = c.loop-k.k in
    let whole = from_first cs lo (length bs / 2) bs c.as_chunks.ensures.front c.as_chunks.ensures.back (omega arith) in
    let here = nth_here cs lo k c.loop-k.left c.loop-k-test.true (omega (arith, c.run_length-count.ensures.exact)) in
    ap Some c.code_reading.ensures ∙ shown_at (runs 0 bs) c.args.index _ (ap (λ xs. slice_get xs c.args.index) (sym whole) ∙ sym c.loop-k.invariant ∙ here)

pub loop-k-preserved : goal.loop-k-preserved
loop-k-preserved c =
    let cs = c.as_chunks.result.0.now in
    let lo = c.as_chunks.result.1.now in
    sym (nth_on cs lo c.loop-k.k c.loop-k.left (c.loop-k.left - c.run_length-count.result) c.loop-k-test.true (omega (arith, c.run_length-count.ensures.exact))) ∙ c.loop-k.invariant

pub returns-then-not-is_empty : goal.returns-then-not-is_empty
returns-then-not-is_empty c =
    let bs = c.args.bytes.now in
    let cs = c.as_chunks.result.0.now in
    let lo = c.as_chunks.result.1.now in
    let k = c.loop-k.k in
    let whole = from_first cs lo (length bs / 2) bs c.as_chunks.ensures.front c.as_chunks.ensures.back (omega arith) in
    let one = one_left cs lo k (omega arith) (lone_there (length bs) (length lo) c.as_chunks.ensures.back_len (sym c.is_empty.ensures ∙ c.if-not-is_empty.true)) in
    let here = ap (λ xs. slice_get xs c.loop-k.left) one ∙ ap (slice_get (lone (2 * k) ∷ [])) c.if-left-eq0.true in
    let place : 2 * length cs ≡ 2 * k = omega arith in
    ap Some (c.at.ensures ∙ ap (fault cause_cut_short) place) ∙ shown_at (runs 0 bs) c.args.index (lone (2 * k)) (ap (λ xs. slice_get xs c.args.index) (sym whole) ∙ sym c.loop-k.invariant ∙ here)

pub returns-else-left-eq0 : goal.returns-else-left-eq0
returns-else-left-eq0 c =
    let bs = c.args.bytes.now in
    let cs = c.as_chunks.result.0.now in
    let lo = c.as_chunks.result.1.now in
    let k = c.loop-k.k in
    let i = c.loop-k.left in
    let whole = from_first cs lo (length bs / 2) bs c.as_chunks.ensures.front c.as_chunks.ensures.back (omega arith) in
    let found = ap (λ xs. slice_get xs c.args.index) (sym whole) ∙ sym c.loop-k.invariant in
    none_at (runs 0 bs) c.args.index (found ∙ elim c.else-left-eq0.branch [
      | else-left-eq0-via-then-left-eq0+else-not-is_empty w ↦ ap (λ xs. slice_get xs i) (none_left cs lo k (omega arith) (eqb-true (length lo) 0 (sym w.is_empty.ensures ∙ w.if-not-is_empty.false)))
      | else-left-eq0-via-else-left-eq0 w ↦ none_past cs lo k i (omega arith) (omega (arith, c.as_chunks.ensures.back_len)) (omega (arith, w.if-left-eq0.false))
    ])
