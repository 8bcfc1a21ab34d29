-- What `peek_once` needs and the search leaves open.
use Rattle.std.proofs.Common.{◌≡◌, [], ◌++◌, length, Some, None, sym, ap, ◌∙◌, subst}
use Rattle.register.specs.Calls.{opening, peeking, slip, noted}
use Rattle.register.specs.Contents.{Content}
use Rattle.register.specs.State.{State, state, fresh, next, reply, with_open}
use Rattle.report.specs.Counts.{sheet_of}
use Rattle.exports.specs.Peeking.{note_refusal, ToldAs, Seen}
use Rattle.exports.proofs.Looks.{seen, unnoted}
use Rattle.exports.proofs.peeking.peek_once.Goals as goal
use Rattle.exports.proofs.peeking.peek_once.Goals.{in-Ok, in-Err}

pub returns : goal.returns
returns c =
    let sheet : Content = sheet_of c.args.register.now in
    let codes = c.args.codes.now in
    let k = c.args.rule in
    let i = c.args.instant in
    let mark = c.in_ok-slip.slip.mark in
    let began : state c.open.new.self ≡ with_open (fresh sheet 0) (Some []) = c.open.ensures.called.after ∙ ap (λ (v : State). next v opening) c.requires.state_is in
    let gave : slip mark ≡ slip 0 = c.in_ok-slip.ensures.called.answers ∙ ap (λ (v : State). reply v opening) c.requires.state_is in
    let zero : mark ≡ 0 = cc in
    elim c.match-note_all.branch [
      | in-Ok w ↦
          let n = w.in-Ok.ensures.noted in
          let none : note_refusal 0 codes ≡ None = ap (λ (v : State). note_refusal (length (noted v.opened)) codes) (sym began) ∙ n.0 in
          let full : state c.note_all.new.register ≡ with_open (fresh sheet 0) (Some codes) = n.1 ∙ ap (λ (v : State). with_open v (Some (noted v.opened ++ codes))) began in
          subst (Seen sheet codes k i) (sym w.seen-is)
          (seen sheet codes k i none w.peek-seen.result
          (w.peek-seen.ensures.answers ∙ (λ j. reply (full j) (peeking (zero j) k i))))
      | in-Err w ↦
          let n = w.in-Err.ensures.noted in
          subst (Seen sheet codes k i) (sym w.seen-is)
          (unnoted sheet codes k i w.in-Err.why (subst (λ (v : State). ToldAs w.in-Err.why (note_refusal (length (noted v.opened)) codes)) began n))
    ]
