use Rattle.std.proofs.Common.{sym, ap, ◌∙◌, arith, Ok}
use Rattle.std.proofs.lemmas.List.{length-map}
use Rattle.trace.specs.Readings.{reading_at, raised}
use Rattle.layers.specs.Layers.{renamed}
use Rattle.layers.proofs.Layered.{answer_renamed, renamed_event}
use Rattle.layers.proofs.renamed.RenamedSource.reading.Goals as goal

pub returns : goal.returns
returns g c =
    let s = c.args.self.now in
    let rs = g.S.Source.readings s.below in
    let k = c.in_ok-index_of.ensures in
    ap (λ x. Ok (record { symbols = x })) c.image.ensures.value
    ∙ renamed_event s.renaming.table (reading_at rs c.args.instant) _ (sym c.in_ok-event.was ∙ c.raised.ensures ∙ ap raised c.reading.ensures)
    ∙ answer_renamed s.renaming.table rs c.args.instant (omega (arith, k.0)) (omega (arith, k.0, k.1, c.len.ensures, length-map rs (renamed s.renaming.table)))
