-- What `note` needs and the search leaves open.
use Rattle.std.proofs.Common.{length, sym, refl, ap, ◌∙◌, arith}
use Rattle.std.proofs.lemmas.Bool.{lt-ltb, le-ltb, le-leb, lt-leb}
use Rattle.register.specs.Calls.{noted}
use Rattle.register.specs.State.{state, with_open}
use Rattle.register.proofs.Laws.{refuses, accepts, when_yes, when_no}
use Rattle.register.proofs.Open.{right_live, noted_len, opened_more}
use Rattle.register.proofs.register.Register.note.Goals as goal

pub returns-then-is_wrong : goal.returns-then-is_wrong
returns-then-is_wrong c = refuses _ _ _ _ (when_yes _ _ _ (sym c.is_wrong.ensures ∙ c.if-is_wrong.true)) refl

pub returns-then-code-ge-SYMBOLS : goal.returns-then-code-ge-SYMBOLS
returns-then-code-ge-SYMBOLS c =
    refuses _ _ _ _
    (when_no _ _ _ (sym c.is_wrong.ensures ∙ c.if-is_wrong.false) ∙ when_yes _ _ _ (lt-ltb 63 c.args.code (omega arith))) refl

pub returns-then-len-ge-MAX_INSTANTS : goal.returns-then-len-ge-MAX_INSTANTS
returns-then-len-ge-MAX_INSTANTS c =
    let r = c.args.self.now in
    let right = sym c.is_wrong.ensures ∙ c.if-is_wrong.false in
    let len = noted_len r (right_live r _ right) in
    refuses _ _ _ _
    (when_no _ _ _ right ∙ when_no _ _ _ (le-ltb 63 c.args.code (omega arith))
    ∙ when_yes _ _ _ (le-leb 1024 (length (noted (state r).opened)) (omega (arith, len, c.len.ensures)))) refl

pub returns : goal.returns
returns c =
    let r = c.args.self.now in
    let right = sym c.is_wrong.ensures ∙ c.if-is_wrong.false in
    let live = right_live r _ right in
    let len = noted_len r live in
    accepts _ _ _ _
    (when_no _ _ _ right ∙ when_no _ _ _ (le-ltb 63 c.args.code (omega arith))
    ∙ when_no _ _ _ (lt-leb 1024 (length (noted (state r).opened)) (omega (arith, len, c.len.ensures))))
    (ap (with_open (state r)) (opened_more r _ _ live c.push_reserved.ensures.items))
    refl
