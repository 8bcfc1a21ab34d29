-- What reversing means is proved apart.
use Rattle.layers.proofs.Layered.{shows_from_the_end}
use Rattle.layers.proofs.reversed.from_end.Goals as goal

pub returns-clause-law : goal.returns-clause-law
returns-clause-law c =
    shows_from_the_end
