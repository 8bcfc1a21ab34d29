use Rattle.trace.proofs.Causes.{other_words}
use Rattle.trace.proofs.reading.Fault.words.Goals as goal

pub returns-in-Err : goal.returns-in-Err
returns-in-Err c = other_words c.args.self.cause c.in-Err.ensures.1
