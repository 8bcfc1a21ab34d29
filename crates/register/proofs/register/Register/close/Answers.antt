-- What `close` needs and the search leaves open.
use Rattle.std.proofs.Common.{◌≡◌, length, None, Ok, vec_items, sym, refl, ap, ◌∙◌}
use Rattle.bottoms.specs.Records.{bounded, codes}
use Rattle.register.specs.Answers.{strip_after}
use Rattle.register.specs.Calls.{counted, noted}
use Rattle.register.specs.Contents.{coded_trace}
use Rattle.register.specs.State.{state, with_trace}
use Rattle.register.specs.declared.slip.Unclosed.{Unclosed}
use Rattle.register.proofs.Laws.{refuses, accepts, when_yes, coded_length}
use Rattle.register.proofs.Open.{right_live, noted_len, closing_trace}
use Rattle.register.proofs.Table.{closing_blank, closing_room, add_ok, add_err}
use Rattle.register.proofs.register.Register.close.Goals as goal

pub returns-then-is_wrong-clause-called : goal.returns-then-is_wrong-clause-called
returns-then-is_wrong-clause-called c =
    refuses _ _ _ _ (when_yes _ _ _ (sym c.is_wrong.ensures ∙ c.if-is_wrong.true)) refl

pub returns-then-len-eq0-clause-called : goal.returns-then-len-eq0-clause-called
returns-then-len-eq0-clause-called c =
    let r = c.args.self.now in
    let right = sym c.is_wrong.ensures ∙ c.if-is_wrong.false in
    refuses _ _ _ _
    (closing_blank r (length c.args.strip.now) c.args.slip.mark right
    (noted_len r (right_live r c.args.slip.mark right) ∙ sym c.len.ensures ∙ c.if-len-eq0.true)) refl

pub returns-in-Err-clause-called : goal.returns-in-Err-clause-called
returns-in-Err-clause-called c =
    let r = c.args.self.now in
    let right = sym c.is_wrong.ensures ∙ c.if-is_wrong.false in
    let live = right_live r c.args.slip.mark right in
    let trace : bounded (codes 0 c.new.result.bytes.now) ≡ coded_trace (noted (state r).opened)
    = closing_trace r live c.new.result.bytes.now (ap (λ b. b.now) c.new.ensures ∙ c.as_slice.ensures.value) in
    let len : length (bounded (codes 0 c.new.result.bytes.now)) ≡ length (noted (state r).opened) = ap length trace ∙ coded_length (noted (state r).opened) in
    let some : length (bounded (codes 0 c.new.result.bytes.now)) ≡ 0 → ⊥ = λ z. c.if-len-eq0.false (c.len.ensures ∙ sym (noted_len r live) ∙ sym len ∙ z) in
    refuses _ _ _ _
    (closing_room r (length c.args.strip.now) c.args.slip.mark _ right some len
    ∙ add_err _ c.in-Err.why _ c.in-Err.ensures.answer)
    (ap (λ h. record { mark = r.mark; opened = (state r).opened; held = h }) c.in-Err.ensures.sums)

pub returns-in-Ok-clause-called : goal.returns-in-Ok-clause-called
returns-in-Ok-clause-called c =
    let r = c.args.self.now in
    let right = sym c.is_wrong.ensures ∙ c.if-is_wrong.false in
    let live = right_live r c.args.slip.mark right in
    let trace : bounded (codes 0 c.new.result.bytes.now) ≡ coded_trace (noted (state r).opened)
    = closing_trace r live c.new.result.bytes.now (ap (λ b. b.now) c.new.ensures ∙ c.as_slice.ensures.value) in
    let len : length (bounded (codes 0 c.new.result.bytes.now)) ≡ length (noted (state r).opened) = ap length trace ∙ coded_length (noted (state r).opened) in
    let some : length (bounded (codes 0 c.new.result.bytes.now)) ≡ 0 → ⊥ = λ z. c.if-len-eq0.false (c.len.ensures ∙ sym (noted_len r live) ∙ sym len ∙ z) in
    let done = add_ok _ c.in-Ok.n _ c.in-Ok.ensures.answer in
    accepts _ _ _ _
    (closing_room r (length c.args.strip.now) c.args.slip.mark _ right some len ∙ done.0)
    (ap (λ h. record { mark = r.mark; opened = None; held = h }) (c.in-Ok.ensures.sums ∙ ap (with_trace (state r).held) trace))
    (ap counted (done.1 ∙ len))

pub returns-in-Ok-clause-strip : goal.returns-in-Ok-clause-strip
returns-in-Ok-clause-strip c =
    let r = c.args.self.now in
    let right = sym c.is_wrong.ensures ∙ c.if-is_wrong.false in
    let live = right_live r c.args.slip.mark right in
    let trace : bounded (codes 0 c.new.result.bytes.now) ≡ coded_trace (noted (state r).opened)
    = closing_trace r live c.new.result.bytes.now (ap (λ b. b.now) c.new.ensures ∙ c.as_slice.ensures.value) in
    let len : length (bounded (codes 0 c.new.result.bytes.now)) ≡ length (noted (state r).opened) = ap length trace ∙ coded_length (noted (state r).opened) in
    let some : length (bounded (codes 0 c.new.result.bytes.now)) ≡ 0 → ⊥ = λ z. c.if-len-eq0.false (c.len.ensures ∙ sym (noted_len r live) ∙ sym len ∙ z) in
    let done = add_ok _ c.in-Ok.n _ c.in-Ok.ensures.answer in
    c.in-Ok.ensures.strip ∙ ap (λ rs. strip_after {E = Unclosed} (Ok c.in-Ok.n) rs (vec_items r.totals.sheet.rows) c.args.strip.now) trace
