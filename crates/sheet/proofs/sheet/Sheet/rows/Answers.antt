-- What `rows` needs and the search leaves open.
use Rattle.sheet.proofs.Sheeted.{well_formed}
use Rattle.sheet.proofs.sheet.Sheet.rows.Goals as goal

pub returns : goal.returns
returns c = record { value = c.as_slice.ensures.value; formed = well_formed c.args.self.now }
