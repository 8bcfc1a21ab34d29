-- The laws of rule texts. Assumes nothing.
use Rattle.text.specs.Laws.{TextLaws}
use Rattle.text.proofs.Decided.{decided, earlier_decides}
use Rattle.text.proofs.Means.{means}
use Rattle.text.proofs.Settled.{written_is_added}
use Rattle.text.proofs.Unique.{unambiguous}

-- all of them
pub laws : TextLaws
laws = record { unambiguous = unambiguous; decided = decided; earlier_decides = earlier_decides; written_is_added = written_is_added; means = means }
