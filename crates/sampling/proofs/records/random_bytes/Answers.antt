-- What `random_bytes` needs and the search leaves open.
use Rattle.std.proofs.Common.{◌≡◌, ◌<◌, [], ◌∷◌, ◌++◌, vec_items, rules}
use Rattle.sampling.proofs.Made.{each_more}
use Rattle.sampling.proofs.records.random_bytes.Goals as goal

-- one element more
pub loop-k-preserved : goal.loop-k-preserved
loop-k-preserved c =
    let added : vec_items c.push.new.self ≡ vec_items c.loop-k.bytes ++ c.byte.result ∷ [] = search rules in
    each_more (λ x. (0 < c.args.limit → x < c.args.limit)) c.loop-k._k c.byte.result (vec_items c.loop-k.bytes) (vec_items c.push.new.self) added c.byte.ensures.within c.loop-k.invariant

-- no memory
