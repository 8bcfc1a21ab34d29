-- The table of worked examples comes out.
use Rattle.std.proofs.Common.{refl}
use Rattle.label.specs.Examples.{ExamplesHold}

-- each line computes to its labels
pub tabled : ExamplesHold
tabled = ((refl, refl), ((refl, refl), ((refl, refl), ((refl, refl), ((refl, refl), ((refl, refl), ((refl, refl), ((refl, refl), ((refl, refl), ((refl, refl), tt))))))))))
