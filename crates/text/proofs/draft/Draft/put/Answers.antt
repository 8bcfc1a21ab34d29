-- What is left to show of `put`.
use Rattle.std.proofs.Common.{sym, ap, ◌∙◌, subst, lit<}
use Rattle.sheet.specs.Sheets.{classes_of}
use Rattle.sheet.proofs.Built.{accepted}
use Rattle.text.specs.Follow.{Follow}
use Rattle.text.proofs.Puts.{fits, sorts_push, follow_push}
use Rattle.text.proofs.draft.Draft.put.Goals as goal

pub push-requires : goal.push-requires
push-requires c =
    let d = c.args.self.now in
    (lit< tt, (accepted d.rows.items c.args.row (fits d.rows.items d.classes.items _ c.args.row d.sorts c.deref.ensures.0 c.in_default.ensures)).room)

pub invariant_of-self-2-clause-sorts : goal.invariant_of-self-2-clause-sorts
invariant_of-self-2-clause-sorts c =
    let d = c.args.self.now in
    c.push-2.ensures.items ∙ sorts_push d.rows.items d.classes.items _ c.args.row c.class_of-class.result d.sorts c.deref-2.ensures.0 c.class_of-class.ensures ∙ ap classes_of (sym c.push.ensures.items)

pub invariant_of-self-2-clause-follow : goal.invariant_of-self-2-clause-follow
invariant_of-self-2-clause-follow c =
    let d = c.args.self.now in
    subst Follow (sym c.push.ensures.items) (follow_push d.rows.items c.args.row d.follow (fits d.rows.items d.classes.items _ c.args.row d.sorts c.deref.ensures.0 c.in_default.ensures))
