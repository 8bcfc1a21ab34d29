use Rattle.std.proofs.Common.{refl, ap, ◌∙◌, arith, length, Some}
use Rattle.std.proofs.lemmas.Option.{slice_get_past, slice_get_read}
use Rattle.bottoms.proofs.Layouts.{shown_code, shown_no_code}
use Rattle.bottoms.proofs.codes.CodeLayoutLayout.shown.Goals as goal

pub returns-in_err-code : goal.returns-in_err-code
returns-in_err-code c = c.from_residual.ensures ∙ shown_no_code 0 c.args.bytes.now c.args.index (slice_get_past c.args.bytes.now c.args.index c.in_err-code.ensures.lookup.3)

pub returns : goal.returns
returns c =
    let bs = c.args.bytes.now in
    let code = c.in_ok-code.code.now in
    let l = c.in_ok-code.ensures.lookup in
    ap Some c.code_reading.ensures ∙ shown_code 0 c.args.index bs c.args.index code (omega arith) (slice_get_read bs (length bs) c.args.index code refl l.3.0 l.1)
