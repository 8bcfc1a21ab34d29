-- What a segment means is proved apart.
use Rattle.layers.proofs.Layered.{shows_a_part}
use Rattle.layers.proofs.segment.Segment.in_range.Goals as goal

pub returns-then-self-clause-law : goal.returns-then-self-clause-law
returns-then-self-clause-law g c =
    shows_a_part

pub returns-else-self-clause-law : goal.returns-else-self-clause-law
returns-else-self-clause-law g c =
    shows_a_part
