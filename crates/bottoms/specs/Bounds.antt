-- No record's trace has more than 1,024 instants. Assumes nothing.
use Rattle.std.specs.Prelude.{◌≤◌, List, length, nat_le}
use Rattle.std.proofs.Common.{arith}
use Rattle.std.proofs.lemmas.List.{length-map}
use Rattle.std.proofs.lemmas.Bool.{cond_both, leb-true}
use Rattle.bottoms.specs.Records.{Instant, bounded}

-- whatever the layout
pub bounded_few : (xs : List Instant) → length (bounded xs) ≤ 1024
bounded_few xs =
    cond_both (nat_le (length xs) 1024) _ _ (λ rs. length rs ≤ 1024)
    (λ e. omega (arith, leb-true (length xs) 1024 e, length-map xs (λ x. x.reading)))
    (λ e. omega arith)
