-- What `take_in` needs and the search leaves open.
use Rattle.std.proofs.Common.{length, sym, refl, ap, ◌∙◌}
use Rattle.register.specs.State.{state}
use Rattle.register.proofs.Laws.{refuses}
use Rattle.register.proofs.Table.{taking_blank, taking_fault, taken}
use Rattle.register.proofs.register.Register.take_in.Goals as goal

pub returns-then-len-eq0-clause-called : goal.returns-then-len-eq0-clause-called
returns-then-len-eq0-clause-called g c =
    let rs = g.S.Source.readings c.args.source.now in
    refuses _ _ _ _ (taking_blank c.args.self.now (length c.args.strip.now) rs (sym c.len.ensures ∙ c.if-len-eq0.true)) refl

pub returns-in-Some-clause-called : goal.returns-in-Some-clause-called
returns-in-Some-clause-called g c =
    let rs = g.S.Source.readings c.args.source.now in
    refuses _ _ _ _
    (taking_fault c.args.self.now (length c.args.strip.now) rs c.in-Some.at (λ z. c.if-len-eq0.false (c.len.ensures ∙ z)) c.in-Some.ensures.value) refl

pub returns-clause-called : goal.returns-clause-called
returns-clause-called g c =
    let r = c.args.self.now in
    let rs = g.S.Source.readings c.args.source.now in
    taken r _ (length c.args.strip.now) rs c.add.result (λ z. c.if-len-eq0.false (c.len.ensures ∙ z)) c.in_default.ensures.value c.add.ensures.answer
    (ap (λ h. record { mark = r.mark; opened = (state r).opened; held = h }) c.add.ensures.sums)
