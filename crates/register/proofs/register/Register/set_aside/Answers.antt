-- What `set_aside` needs and the search leaves open.
use Rattle.std.proofs.Common.{sym, refl, ◌∙◌}
use Rattle.register.proofs.Laws.{refuses, accepts, when_yes, when_no}
use Rattle.register.proofs.register.Register.set_aside.Goals as goal

pub returns-then-is_wrong-clause-called : goal.returns-then-is_wrong-clause-called
returns-then-is_wrong-clause-called c =
    refuses _ _ _ _ (when_yes _ _ _ (sym c.is_wrong.ensures ∙ c.if-is_wrong.true)) refl

pub returns-clause-called : goal.returns-clause-called
returns-clause-called c =
    accepts _ _ _ _ (when_no _ _ _ (sym c.is_wrong.ensures ∙ c.if-is_wrong.false)) refl refl
