-- What `count_rule` needs and the search leaves open.
use Rattle.std.proofs.Common.{◌+◌, ◌<◌, true, false, refl, ap, arith}
use Rattle.evaluator.specs.declared.figures.RuleCount.{RuleCount}
use Rattle.evaluator.proofs.Tallied.{tally_small, triggered_counts, counts_triggered}
use Rattle.evaluator.proofs.figures.count_rule.Goals as goal

-- few instants are counted
pub overflow_add-held : goal.overflow_add-held
overflow_add-held c =
    let a = c.args.activator in
    let t = c.args.target in
    omega (arith, tally_small a t true c.args.n c.count-both.result c.count-both.ensures, tally_small a t false c.args.n c.count-act.result c.count-act.ensures)

pub overflow_mul-result : goal.overflow_mul-result
overflow_mul-result c = omega (arith, tally_small c.args.activator c.args.target true c.args.n c.count-both.result c.count-both.ensures)

-- the trace is not triggered
pub returns-then-held-eq0 : goal.returns-then-held-eq0
returns-then-held-eq0 c =
    let some = triggered_counts c.args.activator c.args.target c.args.n c.count-both.result c.count-act.result c.count-both.ensures c.count-act.ensures in
    record {
      both = c.count-both.ensures;
      act = c.count-act.ensures;
      tgt = c.count-tgt.ensures;
      none = c.count-none.ensures;
      triggered = λ h. let l = some h in absurd (omega arith);
      untriggered = λ h. (ap (λ (f : RuleCount). f.triggered) c.zero.ensures, ap (λ (f : RuleCount). f.degree) c.zero.ensures);
    }

-- the trace is triggered
pub returns : goal.returns
returns c =
    let held : 0 < c.count-both.result + c.count-act.result = omega (arith, c.if-held-eq0.false) in
    record {
      both = c.count-both.ensures;
      act = c.count-act.ensures;
      tgt = c.count-tgt.ensures;
      none = c.count-none.ensures;
      triggered = λ h. (refl, refl);
      untriggered = λ h. absurd (h (counts_triggered c.args.activator c.args.target c.args.n c.count-both.result c.count-act.result c.count-both.ensures c.count-act.ensures held));
    }
