use Rattle.std.proofs.Common.{◌≡◌, get_or, length, sym, ◌∙◌, zero-add, arith, rules}
use Rattle.std.specs.List.{range_with_len}
use Rattle.std.proofs.lemmas.List.{ext_get_or}
use Rattle.std.proofs.lemmas.List.FromFn.{get_or-range_with_len}
use Rattle.layers.proofs.renaming.Renaming.new.Goals as goal

pub returns : goal.returns
returns c =
    let t = c.from_fn.result in
    let long : length t ≡ 64 = c.from_fn.ensures.items.long in
    ext_get_or 0 t (range_with_len 0 64) long
    (λ k h.
    let called = (c.from_fn.ensures.items.at k 0 (omega arith)).2 in
    let is : get_or t k 0 ≡ k = search rules in
    is ∙ sym (get_or-range_with_len 0 64 k 0 (omega arith) ∙ zero-add k))
