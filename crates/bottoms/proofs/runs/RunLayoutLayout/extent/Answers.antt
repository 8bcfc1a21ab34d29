use Rattle.std.proofs.Common.{◌≡◌, ◌+◌, ◌-◌, ◌*◌, ◌/◌, [], ◌∷◌, length, sym, ap, ◌∙◌, refl, arith}
use Rattle.std.proofs.lemmas.Bool.{eqb-true}
use Rattle.std.specs.List.{slice_get}
use Rattle.bottoms.specs.Records.{runs, lone}
use Rattle.bottoms.proofs.Bounded.{extent_short}
use Rattle.bottoms.proofs.Walk.{from_first, lone_there, length_pair, nth_here, nth_on, none_left, one_left, found_long}
use Rattle.bottoms.proofs.runs.RunLayoutLayout.extent.Goals as goal

pub returns-then-total-gt-MAX_INSTANTS : goal.returns-then-total-gt-MAX_INSTANTS
returns-then-total-gt-MAX_INSTANTS c =
    let bs = c.args.bytes.now in
    let cs = c.as_chunks.result.0.now in
    let lo = c.as_chunks.result.1.now in
    let k = c.loop-k.k in
    let i = c.loop-k.invariant in
    let whole = from_first cs lo (length bs / 2) bs c.as_chunks.ensures.front c.as_chunks.ensures.back (omega arith) in
    let here = nth_here cs lo k (1024 - c.loop-k.total) c.loop-k-test.true (omega (arith, i.0, c.run_length-total.ensures.exact, c.if-total-gt-MAX_INSTANTS.true)) in
    found_long (runs 0 bs) _ _ (ap (λ xs. slice_get xs 1024) (sym whole) ∙ sym i.2 ∙ here) refl

pub loop-k-preserved : goal.loop-k-preserved
loop-k-preserved c =
    let cs = c.as_chunks.result.0.now in
    let lo = c.as_chunks.result.1.now in
    let k = c.loop-k.k in
    let i = c.loop-k.invariant in
    let n = c.run_length-total.result in
    let more = length_pair cs lo k c.loop-k-test.true in
    let on = nth_on cs lo k (1024 - c.loop-k.total) (1024 - (c.loop-k.total + n)) c.loop-k-test.true (omega (arith, i.0, c.run_length-total.ensures.exact)) in
    (omega arith, omega (arith, more, i.1, c.run_length-total.ensures.exact), sym on ∙ i.2)

pub returns-then-is_empty : goal.returns-then-is_empty
returns-then-is_empty c =
    let bs = c.args.bytes.now in
    let cs = c.as_chunks.result.0.now in
    let lo = c.as_chunks.result.1.now in
    let i = c.loop-k.invariant in
    let whole = from_first cs lo (length bs / 2) bs c.as_chunks.ensures.front c.as_chunks.ensures.back (omega arith) in
    let none = ap length (none_left cs lo c.loop-k.k (omega arith) (eqb-true (length lo) 0 (sym c.is_empty.ensures ∙ c.if-is_empty.true))) in
    extent_short (runs 0 bs) c.loop-k.total (omega (arith, i.1, none, ap length whole)) i.0

pub returns-then-total-lt-MAX_INSTANTS : goal.returns-then-total-lt-MAX_INSTANTS
returns-then-total-lt-MAX_INSTANTS c =
    let bs = c.args.bytes.now in
    let cs = c.as_chunks.result.0.now in
    let lo = c.as_chunks.result.1.now in
    let i = c.loop-k.invariant in
    let whole = from_first cs lo (length bs / 2) bs c.as_chunks.ensures.front c.as_chunks.ensures.back (omega arith) in
    let one = ap length (one_left cs lo c.loop-k.k (omega arith) (lone_there (length bs) (length lo) c.as_chunks.ensures.back_len (sym c.is_empty.ensures ∙ c.if-is_empty.false))) in
    extent_short (runs 0 bs) (c.loop-k.total + 1) (omega (arith, i.1, one, ap length whole)) (omega arith)

pub returns-else-total-lt-MAX_INSTANTS : goal.returns-else-total-lt-MAX_INSTANTS
returns-else-total-lt-MAX_INSTANTS c =
    let bs = c.args.bytes.now in
    let cs = c.as_chunks.result.0.now in
    let lo = c.as_chunks.result.1.now in
    let k = c.loop-k.k in
    let i = c.loop-k.invariant in
    let whole = from_first cs lo (length bs / 2) bs c.as_chunks.ensures.front c.as_chunks.ensures.back (omega arith) in
    let one = one_left cs lo k (omega arith) (lone_there (length bs) (length lo) c.as_chunks.ensures.back_len (sym c.is_empty.ensures ∙ c.if-is_empty.false)) in
    let zero : 1024 - c.loop-k.total ≡ 0 = omega (arith, i.0) in
    let here = ap (λ xs. slice_get xs (1024 - c.loop-k.total)) one ∙ ap (slice_get (lone (2 * k) ∷ [])) zero in
    let place : 2 * k ≡ 2 * length cs = omega arith in
    found_long (runs 0 bs) _ _ (ap (λ xs. slice_get xs 1024) (sym whole) ∙ sym i.2 ∙ here) place
