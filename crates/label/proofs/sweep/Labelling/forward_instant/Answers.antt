-- What `forward_instant` needs and the search leaves open.
use Rattle.std.proofs.Common.{◌≡◌, ◌+◌, ◌-◌, ◌*◌, ◌≤◌, true, false, List, length, get_or, drop, vec_items, vec_len, sym, ap, ◌∙◌, subst, arith}
use Rattle.sheet.specs.Classes.{present_or_past}
use Rattle.sheet.specs.Rows.{class_at}
use Rattle.sheet.specs.Sheets.{classes_of}
use Rattle.sheet.specs.declared.row.Class.{Class}
use Rattle.sheet.specs.declared.row.Row.TheVariants as row
use Rattle.label.specs.Steps.{Filled, back_only}
use Rattle.label.specs.declared.verdict.Verdict.{Verdict}
use Rattle.sheet.proofs.Built.{length_classes}
use Rattle.sheet.proofs.Sheeted.{row_there, row_read}
use Rattle.label.proofs.Sweeps.{forward_turn, upto_skip, Upto}
use Rattle.label.proofs.sweep.Labelling.forward_instant.Goals as goal
use Rattle.label.proofs.sweep.Labelling.forward_instant.Goals.{then-present_or_past, else-present_or_past}

pub bounds-classes-r : goal.bounds-classes-r
bounds-classes-r g c =
    let many = ap length c.rows-rows.ensures.value in
    let sorts = ap length c.classes-classes.ensures.sorts ∙ length_classes (vec_items c.args.self.now.sheet.now.rows) in
    omega arith

pub loop-r-preserved : goal.loop-r-preserved
loop-r-preserved g c =
    let sheet = c.args.self.now.sheet.now in
    let e = g.K.VerdictKind.after in
    let rs = g.S.Source.readings c.args.self.now.source.now in
    let rows = vec_items sheet.rows in
    let xs = c.rows-rows.result.now in
    let i = c.args.i in
    let r = c.loop-r.r in
    let long = sheet.rows.ok.0 in
    let many : length xs ≡ length rows = ap length c.rows-rows.ensures.value in
    let m : length xs ≡ vec_len sheet.rows = many ∙ sym long in
    let room : i * length xs ≤ length c.loop-r.strip = rw m (omega arith) in
    let inv = c.loop-r.invariant in
    let sorts = ap (λ (cs : List Class). present_or_past (class_at cs r)) (sym c.classes-classes.ensures.sorts) in
    elim c.if-present_or_past.branch [
      | then-present_or_past w ↦
          let n : present_or_past (class_at (classes_of rows) r) ≡ true = sorts ∙ sym w.if-present_or_past.ensures in
          let t = forward_turn e rs rows (length xs) i r c.loop-r.strip c.if-present_or_past.strip w.label_row.new.here (get_or xs r row.True) c.reading-reading.result w.before-near.result many (omega arith) room (omega arith) sheet.shape (row_read sheet xs r row.True c.rows-rows.ensures.value (omega arith)) c.reading-reading.ensures w.label_row.ensures w.strip-is n w.before-near.ensures inv.0 inv.1 in
          (t.0, t.1, ap (λ k. drop (i * k) c.if-present_or_past.strip) long ∙ (t.2 ∙ (ap (λ k. drop (i * k) c.loop-r.strip) (sym long) ∙ inv.2)))
      | else-present_or_past w ↦
          let n : present_or_past (class_at (classes_of rows) r) ≡ false = sorts ∙ sym w.if-present_or_past.ensures in
          let P : List Verdict → Type 0 = λ t. Filled (back_only rows) e rs rows 1 (i - 1) t × Upto (back_only rows) e rs rows i (r + 1) t × (drop (i * vec_len sheet.rows) t ≡ drop (i * vec_len sheet.rows) c.args.strip.now) in
          subst P (sym w.strip-is) (inv.0, upto_skip (back_only rows) e rs rows i r c.loop-r.strip n inv.1, inv.2)
    ]

pub invariant_of-placed : goal.invariant_of-placed
invariant_of-placed g c =
    let sheet = c.args.self.now.sheet.now in
    let xs = c.rows-rows.result.now in
    let r = c.loop-r.r in
    let m : length xs ≡ vec_len sheet.rows = ap length c.rows-rows.ensures.value ∙ sym sheet.rows.ok.0 in
    record { operands = row_there sheet r (get_or xs r row.True) (omega arith) (row_read sheet xs r row.True c.rows-rows.ensures.value (omega arith)) }
