-- What `of` needs and the search leaves open.
use Rattle.evaluator.proofs.Operands.{cut_long}
use Rattle.evaluator.proofs.short_trace.ShortTrace.of.Goals as goal

pub returns : goal.returns
returns c = cut_long c.args.trace.now c.min-end.result c.min-end.ensures
