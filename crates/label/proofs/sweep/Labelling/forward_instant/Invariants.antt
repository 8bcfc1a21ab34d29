-- What the loop of `forward_instant` keeps.
use Rattle.std.proofs.Common.{◌≡◌, ℕ, ◌-◌, ◌*◌, ◌<◌, true, length, get_or, drop, vec_items, vec_len}
use Rattle.label.specs.Labels.{label_at}
use Rattle.label.specs.Steps.{Filled, back_only}
use Rattle.label.specs.Strips.{cell}
use Rattle.label.specs.declared.verdict.Verdict.TheVariants.{No}
use Rattle.label.proofs.sweep.Labelling.forward_instant.Given as goal

-- the instants before are labelled, this one up to row r, and the cells past it are as they were
abbrev pub invariant-loop-r : goal.invariant-loop-r
invariant-loop-r g l =
    let e = g.K.VerdictKind.after in
    let rs = g.S.Source.readings l.self.source.now in
    let rows = vec_items l.self.sheet.now.rows in
    Filled (back_only rows) e rs rows 1 (l.i - 1) l.strip
    × ((q : ℕ) → q < l.r → back_only rows q ≡ true → get_or l.strip (cell (length rows) l.i q) No ≡ label_at e rs rows l.i q)
    × (drop (l.i * vec_len l.self.sheet.now.rows) l.strip ≡ drop (l.i * vec_len l.self.sheet.now.rows) l.initial.strip)
