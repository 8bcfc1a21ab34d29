-- What `own` needs and the search leaves open.
use Rattle.std.proofs.Common.{◌≡◌, arith}
use Rattle.register.proofs.Adds.{cells_adds, cells_all, cells_small}
use Rattle.register.proofs.tally.Labels.own.Goals as goal

pub tick-f-requires : goal.tick-f-requires
tick-f-requires c = omega (arith, cells_adds c.args.self.now.strip.now c.args.self.now.rows c.args.rule c.loop-i.i c.loop-i.f c.loop-i.invariant)

pub grade-requires : goal.grade-requires
grade-requires c = omega (arith, cells_adds c.args.self.now.strip.now c.args.self.now.rows c.args.rule c.loop-i.i c.loop-i.f c.loop-i.invariant)

pub returns-clause-small : goal.returns-clause-small
returns-clause-small c =
    let end : c.loop-i.i ≡ c.args.self.now.instants = omega arith in
    let is = cells_all c.args.self.now.strip.now c.args.self.now.rows c.args.self.now.instants c.args.rule c.loop-i.i c.loop-i.f c.grade.result c.loop-i.invariant end c.grade.ensures in
    cells_small c.args.self.now.strip.now c.args.self.now.rows c.args.self.now.instants c.args.rule c.grade.result c.args.self.now.few is

pub returns-clause-value : goal.returns-clause-value
returns-clause-value c =
    let end : c.loop-i.i ≡ c.args.self.now.instants = omega arith in
    let is = cells_all c.args.self.now.strip.now c.args.self.now.rows c.args.self.now.instants c.args.rule c.loop-i.i c.loop-i.f c.grade.result c.loop-i.invariant end c.grade.ensures in
    is
