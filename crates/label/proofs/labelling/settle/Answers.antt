-- What `settle` needs and the search leaves open.
use Rattle.std.proofs.Common.{length, vec_items, vec_len}
use Rattle.label.proofs.Flips.{mirrored, mirrored_labels}
use Rattle.label.proofs.Told.{truly}
use Rattle.label.proofs.Truths.{settled}
use Rattle.label.proofs.labelling.settle.Goals as goal

pub returns-clause-labels : goal.returns-clause-labels
returns-clause-labels g c = mirrored_labels

pub returns-clause-law : goal.returns-clause-law
returns-clause-law g c = settled

pub returns-clause-mirror : goal.returns-clause-mirror
returns-clause-mirror g c = mirrored

pub returns-clause-truth : goal.returns-clause-truth
returns-clause-truth g c =
    let a = c.label.ensures.answer in
    let s = c.label.ensures.cells in
    let rows = c.args.sheet.now.rows in
    truly (g.S.Source.readings c.args.source.now) (vec_items rows) (vec_len rows) (length c.args.strip.now) c.args.strip.now c.label.new.strip c.label.result a s
