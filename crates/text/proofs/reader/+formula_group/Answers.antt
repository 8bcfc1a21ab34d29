-- What is left to show of `formula` and `group`.
use Rattle.std.proofs.Common.{refl, ◌∙◌}
use Rattle.text.specs.Drafts.{drafted}
use Rattle.text.specs.Trees.{leaf_row, one_row, two_row}
use Rattle.text.proofs.Groups.{put_is, deep_here, group_read, leaf_stands, one_stops, one_open, one_stands, two_stops, two_space, two_joint, two_second, two_open, two_stands}
use Rattle.text.proofs.Steps.{passed_on}
use Rattle.text.proofs.reader.+formula_group.Goals as goal

pub formula-returns-then-left-eq0 : goal.formula-returns-then-left-eq0
formula-returns-then-left-eq0 t c = record { text = refl; read = deep_here c.args.cursor.now.text.now c.args.cursor.now.at c.args.left c.if-comes.ensures c.if-left-eq0.true }

pub formula-returns-then-comes : goal.formula-returns-then-comes
formula-returns-then-comes t c =
    record { text = c.group.ensures.text; read = group_read c.args.cursor.now.text.now c.args.cursor.now.at c.args.left c.group.new.cursor.at (drafted c.args.out.now) (drafted c.group.new.out) c.group.result c.if-comes.ensures c.if-left-eq0.false c.group.ensures.read }

pub formula-returns : goal.formula-returns
formula-returns t c =
    record { text = c.plain.ensures.text; read = leaf_stands c.args.cursor.now.text.now c.args.cursor.now.at c.args.left c.in_ok-leaf.leaf c.plain.new.self.at c.put.result (drafted c.args.out.now) (drafted c.put.new.self) c.in_ok-leaf.ensures.read (put_is (drafted c.args.out.now) c.into.result (leaf_row c.in_ok-leaf.leaf) _ _ c.into.ensures (c.put.ensures.state, c.put.ensures.number)) }

pub group-returns-in_err-a : goal.group-returns-in_err-a
group-returns-in_err-a t c =
    let s = c.args.cursor.now.text.now in
    let at = c.args.cursor.now.at in
    let hd = rw c.in-Some.is at c.in_ok-u.ensures.read in
    record { text = c.formula.ensures.text ∙ c.head.ensures.text; read = passed_on _ _ _ _ c.from_residual-in_err-a.ensures.1 (one_stops s at c.args.left c.in-Some.u c.head.new.self.at hd c.in_err-a.field-0.0 (rw c.head.ensures.text at c.in_err-a.ensures.read)) }

pub group-returns-in_err-word : goal.group-returns-in_err-word
group-returns-in_err-word t c =
    let s = c.args.cursor.now.text.now in
    let at = c.args.cursor.now.at in
    let hd = rw c.in-Some.is at c.in_ok-u.ensures.read in
    let e1 = c.head.ensures.text in
    let a = rw e1 at c.in_ok-a.ensures.read in
    let e2 = c.formula.ensures.text ∙ e1 in
    record { text = c.word.ensures.text ∙ e2; read = passed_on _ _ _ _ c.from_residual-in_err-word.ensures.1 (one_open s at c.args.left c.in-Some.u c.head.new.self.at hd c.formula.new.cursor.at c.in_ok-a.a (drafted c.args.out.now) (drafted c.formula.new.out) a c.in_err-word.field-0.0 (rw e2 at c.in_err-word.ensures.read)) }

pub group-returns-in-Some : goal.group-returns-in-Some
group-returns-in-Some t c =
    let s = c.args.cursor.now.text.now in
    let at = c.args.cursor.now.at in
    let hd = rw c.in-Some.is at c.in_ok-u.ensures.read in
    let e1 = c.head.ensures.text in
    let a = rw e1 at c.in_ok-a.ensures.read in
    let e2 = c.formula.ensures.text ∙ e1 in
    record { text = c.word.ensures.text ∙ e2; read = one_stands s at c.args.left c.in-Some.u c.head.new.self.at hd c.formula.new.cursor.at c.in_ok-a.a (drafted c.args.out.now) (drafted c.formula.new.out) a c.word.new.self.at c.put.result (drafted c.put.new.self) (rw e2 at c.in_ok-word.ensures.read) (put_is (drafted c.formula.new.out) c.row.result (one_row c.in-Some.u c.in_ok-a.a) _ _ c.row.ensures (c.put.ensures.state, c.put.ensures.number)) }

pub group-returns-in_err-a-2 : goal.group-returns-in_err-a-2
group-returns-in_err-a-2 t c =
    let s = c.args.cursor.now.text.now in
    let at = c.args.cursor.now.at in
    let hd = rw c.in_default.is at c.in_ok-u.ensures.read in
    let e1 = c.head.ensures.text in
    record { text = c.formula-2.ensures.text ∙ e1; read = passed_on _ _ _ _ c.from_residual-in_err-a-2.ensures.1 (two_stops s at c.args.left hd.1 c.in_err-a-2.field-0.0 (rw (e1, hd.0) at c.in_err-a-2.ensures.read)) }

pub group-returns-in_err-word-2 : goal.group-returns-in_err-word-2
group-returns-in_err-word-2 t c =
    let s = c.args.cursor.now.text.now in
    let at = c.args.cursor.now.at in
    let hd = rw c.in_default.is at c.in_ok-u.ensures.read in
    let e1 = c.head.ensures.text in
    let a = rw (e1, hd.0) at c.in_ok-a-2.ensures.read in
    let e2 = c.formula-2.ensures.text ∙ e1 in
    record { text = c.word-2.ensures.text ∙ e2; read = passed_on _ _ _ _ c.from_residual-in_err-word-2.ensures.1 (two_space s at c.args.left hd.1 c.formula-2.new.cursor.at c.in_ok-a-2.a (drafted c.args.out.now) (drafted c.formula-2.new.out) a c.in_err-word-2.field-0.0 (rw e2 at c.in_err-word-2.ensures.read)) }

pub group-returns-in_err-o : goal.group-returns-in_err-o
group-returns-in_err-o t c =
    let s = c.args.cursor.now.text.now in
    let at = c.args.cursor.now.at in
    let hd = rw c.in_default.is at c.in_ok-u.ensures.read in
    let e1 = c.head.ensures.text in
    let a = rw (e1, hd.0) at c.in_ok-a-2.ensures.read in
    let e2 = c.formula-2.ensures.text ∙ e1 in
    let sp = rw e2 at c.in_ok-word-2.ensures.read in
    let e3 = c.word-2.ensures.text ∙ e2 in
    record { text = c.joint.ensures.text ∙ e3; read = passed_on _ _ _ _ c.from_residual-in_err-o.ensures.1 (two_joint s at c.args.left hd.1 c.formula-2.new.cursor.at c.in_ok-a-2.a (drafted c.args.out.now) (drafted c.formula-2.new.out) a c.word-2.new.self.at sp c.in_err-o.field-0.0 (rw e3 at c.in_err-o.ensures.read)) }

pub group-returns-in_err-b : goal.group-returns-in_err-b
group-returns-in_err-b t c =
    let s = c.args.cursor.now.text.now in
    let at = c.args.cursor.now.at in
    let hd = rw c.in_default.is at c.in_ok-u.ensures.read in
    let e1 = c.head.ensures.text in
    let a = rw (e1, hd.0) at c.in_ok-a-2.ensures.read in
    let e2 = c.formula-2.ensures.text ∙ e1 in
    let sp = rw e2 at c.in_ok-word-2.ensures.read in
    let e3 = c.word-2.ensures.text ∙ e2 in
    let jt = rw e3 at c.in_ok-o.ensures.read in
    let e4 = c.joint.ensures.text ∙ e3 in
    record { text = c.formula-3.ensures.text ∙ e4; read = passed_on _ _ _ _ c.from_residual-in_err-b.ensures.1 (two_second s at c.args.left hd.1 c.formula-2.new.cursor.at c.in_ok-a-2.a (drafted c.args.out.now) (drafted c.formula-2.new.out) a c.word-2.new.self.at sp c.in_ok-o.o c.joint.new.self.at jt c.in_err-b.field-0.0 (rw e4 at c.in_err-b.ensures.read)) }

pub group-returns-in_err-word-3 : goal.group-returns-in_err-word-3
group-returns-in_err-word-3 t c =
    let s = c.args.cursor.now.text.now in
    let at = c.args.cursor.now.at in
    let hd = rw c.in_default.is at c.in_ok-u.ensures.read in
    let e1 = c.head.ensures.text in
    let a = rw (e1, hd.0) at c.in_ok-a-2.ensures.read in
    let e2 = c.formula-2.ensures.text ∙ e1 in
    let sp = rw e2 at c.in_ok-word-2.ensures.read in
    let e3 = c.word-2.ensures.text ∙ e2 in
    let jt = rw e3 at c.in_ok-o.ensures.read in
    let e4 = c.joint.ensures.text ∙ e3 in
    let b = rw e4 at c.in_ok-b.ensures.read in
    let e5 = c.formula-3.ensures.text ∙ e4 in
    record { text = c.word-3.ensures.text ∙ e5; read = passed_on _ _ _ _ c.from_residual-in_err-word-3.ensures.1 (two_open s at c.args.left hd.1 c.formula-2.new.cursor.at c.in_ok-a-2.a (drafted c.args.out.now) (drafted c.formula-2.new.out) a c.word-2.new.self.at sp c.in_ok-o.o c.joint.new.self.at jt c.formula-3.new.cursor.at c.in_ok-b.b (drafted c.formula-3.new.out) b c.in_err-word-3.field-0.0 (rw e5 at c.in_err-word-3.ensures.read)) }

pub group-returns : goal.group-returns
group-returns t c =
    let s = c.args.cursor.now.text.now in
    let at = c.args.cursor.now.at in
    let hd = rw c.in_default.is at c.in_ok-u.ensures.read in
    let e1 = c.head.ensures.text in
    let a = rw (e1, hd.0) at c.in_ok-a-2.ensures.read in
    let e2 = c.formula-2.ensures.text ∙ e1 in
    let sp = rw e2 at c.in_ok-word-2.ensures.read in
    let e3 = c.word-2.ensures.text ∙ e2 in
    let jt = rw e3 at c.in_ok-o.ensures.read in
    let e4 = c.joint.ensures.text ∙ e3 in
    let b = rw e4 at c.in_ok-b.ensures.read in
    let e5 = c.formula-3.ensures.text ∙ e4 in
    record { text = c.word-3.ensures.text ∙ e5; read = two_stands s at c.args.left hd.1 c.formula-2.new.cursor.at c.in_ok-a-2.a (drafted c.args.out.now) (drafted c.formula-2.new.out) a c.word-2.new.self.at sp c.in_ok-o.o c.joint.new.self.at jt c.formula-3.new.cursor.at c.in_ok-b.b (drafted c.formula-3.new.out) b c.word-3.new.self.at c.put-2.result (drafted c.put-2.new.self) (rw e5 at c.in_ok-word-3.ensures.read) (put_is (drafted c.formula-3.new.out) c.row-2.result (two_row c.in_ok-o.o c.in_ok-a-2.a c.in_ok-b.b) _ _ c.row-2.ensures (c.put-2.ensures.state, c.put-2.ensures.number)) }
