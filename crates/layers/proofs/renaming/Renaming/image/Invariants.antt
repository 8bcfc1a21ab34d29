use Rattle.std.proofs.Common.{◌≡◌}
use Rattle.trace.specs.Symbols.{set_where}
use Rattle.layers.specs.Renamings.{sent_to}
use Rattle.layers.proofs.renaming.Renaming.image.Given as goal

abbrev pub invariant-loop-s : goal.invariant-loop-s
invariant-loop-s l = l.out ≡ set_where (λ t. sent_to l.self.table l.symbols t l.s)
