-- What `new` needs and the search leaves open.
use Rattle.std.proofs.Common.{None, ap}
use Rattle.register.specs.Contents.{content}
use Rattle.register.proofs.Laws.{begins}
use Rattle.register.proofs.register.Register.new.Goals as goal

pub returns : goal.returns
returns c =
    begins (content c.args.sheet) c.args.mark _
    (ap (λ h. record { mark = c.args.mark; opened = None; held = h }) c.new.ensures)
