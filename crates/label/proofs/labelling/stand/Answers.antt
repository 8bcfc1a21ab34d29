-- What `stand` needs and the search leaves open.
use Rattle.std.proofs.Common.{length, vec_items, vec_len}
use Rattle.label.proofs.Told.{finally}
use Rattle.label.proofs.Truths.{standing}
use Rattle.label.proofs.labelling.stand.Goals as goal

pub returns-clause-law : goal.returns-clause-law
returns-clause-law g c = standing

pub returns-clause-truth : goal.returns-clause-truth
returns-clause-truth g c =
    let a = c.label.ensures.answer in
    let s = c.label.ensures.cells in
    let rows = c.args.sheet.now.rows in
    finally (g.S.Source.readings c.args.source.now) (vec_items rows) (vec_len rows) (length c.args.strip.now) c.args.strip.now c.label.new.strip c.label.result a s
