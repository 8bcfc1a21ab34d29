-- What the loop of `forward` keeps.
use Rattle.std.proofs.Common.{◌≡◌, ◌-◌, ◌*◌, drop, vec_items, vec_len}
use Rattle.label.specs.Steps.{Filled, back_only}
use Rattle.label.proofs.sweep.Labelling.forward.Given as goal

-- the instants before this one are labelled, and the cells past the trace are as they were
abbrev pub invariant-loop-i : goal.invariant-loop-i
invariant-loop-i g l =
    let e = g.K.VerdictKind.after in
    let rs = g.S.Source.readings l.self.source.now in
    let rows = vec_items l.self.sheet.now.rows in
    Filled (back_only rows) e rs rows 1 (l.i - 1) l.strip
    × (drop (l.self.n * vec_len l.self.sheet.now.rows) l.strip ≡ drop (l.self.n * vec_len l.self.sheet.now.rows) l.initial.strip)
