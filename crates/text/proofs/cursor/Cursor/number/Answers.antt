-- What is left to show of `number`.
use Rattle.std.proofs.Common.{refl, sym, subst}
use Rattle.text.specs.Machine.{Plain}
use Rattle.text.proofs.Numbers.{two_digits, one_digit}
use Rattle.text.proofs.cursor.Cursor.number.Goals as goal

pub returns-in-Some : goal.returns-in-Some
returns-in-Some c =
    let text = c.args.self.now in
    record { text = refl; read = two_digits text.text.now text.at c.args.d text.within c.requires c.in-Some.e c.in-Some.ensures (sym c.if-is_ascii_digit.ensures.value) }

pub returns-in_default : goal.returns-in_default
returns-in_default c =
    let text = c.args.self.now in
    record { text = refl; read = one_digit text.text.now text.at c.args.d text.within c.requires (subst Plain (sym c.in-Some.ensures.1) (sym c.if-is_ascii_digit.ensures.value)) }

pub returns-in_default-2 : goal.returns-in_default-2
returns-in_default-2 c =
    let text = c.args.self.now in
    record { text = refl; read = one_digit text.text.now text.at c.args.d text.within c.requires (subst Plain (sym (rw c.in_default.is at c.peek.ensures)) tt) }
