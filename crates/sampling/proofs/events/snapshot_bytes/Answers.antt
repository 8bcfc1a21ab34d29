-- What `snapshot_bytes` needs and the search leaves open.
use Rattle.std.proofs.Common.{◌≡◌, ◌/◌, ◌%◌, [], ◌∷◌, ◌++◌, get_or, vec_items, sym, ap, ◌∙◌, arith, rules}
use Rattle.sampling.proofs.Made.{snapshots_more}
use Rattle.sampling.proofs.events.snapshot_bytes.Goals as goal

-- one instant more
pub loop-symbols-preserved : goal.loop-symbols-preserved
loop-symbols-preserved c =
    let k = c.loop-symbols.symbols-index in
    let x = get_or c.args.events.now k 0 in
    let one : vec_items c.push.new.self ≡ vec_items c.loop-symbols.bytes ++ x / 256 % 256 ∷ [] = search rules in
    let two : vec_items c.push-in-loop-symbols.new.self ≡ vec_items c.push.new.self ++ x % 256 ∷ [] = search rules in
    two ∙ ap (λ ys. ys ++ x % 256 ∷ []) (one ∙ ap (λ ys. ys ++ x / 256 % 256 ∷ []) c.loop-symbols.invariant) ∙ sym (snapshots_more c.args.events.now k (omega arith))

-- all instants
