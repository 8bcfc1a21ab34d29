-- What `open` needs and the search leaves open.
use Rattle.std.proofs.Common.{cond, Some, None, vec_items, refl, ap}
use Rattle.register.specs.Calls.{is_open, slip}
use Rattle.register.specs.State.{state, with_open}
use Rattle.register.proofs.Laws.{refuses, accepts, when_yes, when_no}
use Rattle.register.proofs.register.Register.open.Goals as goal

pub returns-then-self-clause-called : goal.returns-then-self-clause-called
returns-then-self-clause-called c =
    refuses _ _ _ _ (when_yes _ _ _ (ap (λ b. is_open (cond b (Some (vec_items c.args.self.now.codes)) None)) c.if-self.true)) refl

pub returns-clause-called : goal.returns-clause-called
returns-clause-called c =
    accepts _ _ _ _
    (when_no _ _ _ (ap (λ b. is_open (cond b (Some (vec_items c.args.self.now.codes)) None)) c.if-self.false))
    (ap (λ t. with_open (state c.args.self.now) (Some t)) c.clear.ensures.items)
    (ap (λ m. slip m) c.new.ensures.mark)
