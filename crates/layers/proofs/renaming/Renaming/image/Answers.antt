use Rattle.std.proofs.Common.{◌≡◌, length, get_or, sym, ap, ◌∙◌, arith, rules}
use Rattle.std.proofs.lemmas.List.{get_or_default}
use Rattle.trace.specs.Symbols.{set_where}
use Rattle.layers.specs.Renamings.{sent_to}
use Rattle.layers.proofs.Sent.{sent_more, sent_same, images_hold}
use Rattle.layers.proofs.renaming.Renaming.image.Goals as goal
use Rattle.layers.proofs.renaming.Renaming.image.Goals.{then-contains, else-contains}

pub loop-s-preserved : goal.loop-s-preserved
loop-s-preserved c =
    let table = c.args.self.now.table in
    let s = c.loop-s.s in
    elim c.if-contains.branch [
      | then-contains w ↦
          let len : length table ≡ 64 = search rules in
          let read : get_or table s 0 ≡ get_or table s 64 = get_or_default table s 0 64 (omega arith) in
          w.out-is ∙ w.with-out.ensures.value ∙ sent_more table c.args.symbols c.loop-s.out s _ c.loop-s.invariant (sym c.contains.ensures.value ∙ w.if-contains.true) read
      | else-contains w ↦
          w.out-is ∙ c.loop-s.invariant ∙ sent_same table c.args.symbols s (sym c.contains.ensures.value ∙ w.if-contains.false)
    ]

pub returns-clause-law : goal.returns-clause-law
returns-clause-law c =
    let e : c.loop-s.s ≡ 64 = omega arith in
    images_hold

pub returns-clause-value : goal.returns-clause-value
returns-clause-value c =
    let e : c.loop-s.s ≡ 64 = omega arith in
    c.loop-s.invariant ∙ ap (λ n. set_where (λ t. sent_to c.args.self.now.table c.args.symbols t n)) e
