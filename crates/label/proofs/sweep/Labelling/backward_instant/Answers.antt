-- What `backward_instant` needs and the search leaves open.
use Rattle.std.proofs.Common.{◌≡◌, ℕ, ◌*◌, ◌≤◌, true, false, List, length, get_or, vec_items, vec_len, sym, ap, ◌∙◌, mul-le-mul_right, arith}
use Rattle.sheet.specs.Classes.{present_or_past}
use Rattle.sheet.specs.Rows.{class_at}
use Rattle.sheet.specs.Sheets.{classes_of}
use Rattle.sheet.specs.declared.row.Class.{Class}
use Rattle.sheet.specs.declared.row.Row.TheVariants as row
use Rattle.sheet.proofs.Built.{length_classes}
use Rattle.sheet.proofs.Sheeted.{row_there, row_read}
use Rattle.label.proofs.Sweeps.{backward_turn, backward_skip}
use Rattle.label.proofs.sweep.Labelling.backward_instant.Goals as goal
use Rattle.label.proofs.sweep.Labelling.backward_instant.Goals.{then-not-present_or_past, else-not-present_or_past}

-- an instant's cells are within the strip
instant_room : (n i m k l : ℕ) → m ≡ k → i ≤ n → n * k ≤ l → i * m ≤ l
instant_room n i m k l e h r = let t = mul-le-mul_right k h in rw e (omega arith)

pub bounds-classes-r : goal.bounds-classes-r
bounds-classes-r g c =
    let many = ap length c.rows-rows.ensures.value in
    let sorts = ap length c.classes-classes.ensures.sorts ∙ length_classes (vec_items c.args.self.now.sheet.now.rows) in
    omega arith

pub loop-r-preserved : goal.loop-r-preserved
loop-r-preserved g c =
    let sheet = c.args.self.now.sheet.now in
    let e = g.K.VerdictKind.after in
    let rs = g.S.Source.readings c.args.self.now.source.now in
    let rows = vec_items sheet.rows in
    let xs = c.rows-rows.result.now in
    let i = c.args.i in
    let r = c.loop-r.r in
    let long = sheet.rows.ok.0 in
    let many : length xs ≡ length rows = ap length c.rows-rows.ensures.value in
    let m : length xs ≡ vec_len sheet.rows = many ∙ sym long in
    let room : i * length xs ≤ length c.loop-r.strip = instant_room c.args.self.now.n i (length xs) (vec_len sheet.rows) (length c.loop-r.strip) m (omega arith) (omega arith) in
    let inv = c.loop-r.invariant in
    let sorts = ap (λ (cs : List Class). present_or_past (class_at cs r)) (sym c.classes-classes.ensures.sorts) in
    elim c.if-not-present_or_past.branch [
      | then-not-present_or_past w ↦
          let n : present_or_past (class_at (classes_of rows) r) ≡ false = sorts ∙ sym w.if-not-present_or_past.ensures in
          let near = w.later-near.ensures in
          backward_turn e rs rows (length xs) i r c.loop-r.strip c.if-not-present_or_past.strip w.label_row.new.here (get_or xs r row.True) c.reading-reading.result w.later-near.result many (omega arith) room (omega arith) sheet.shape (row_read sheet xs r row.True c.rows-rows.ensures.value (omega arith)) c.reading-reading.ensures w.label_row.ensures w.strip-is n c.args.self.now.n c.args.self.now.count (omega arith) (vec_len sheet.rows) long c.beyond-beyond.result c.beyond-beyond.ensures near c.args.strip.now inv.0 inv.1 inv.2 inv.3
      | else-not-present_or_past w ↦
          let n : present_or_past (class_at (classes_of rows) r) ≡ true = sorts ∙ sym w.if-not-present_or_past.ensures in
          backward_skip e rs rows i r c.args.self.now.n (vec_len sheet.rows) c.loop-r.strip c.if-not-present_or_past.strip c.args.strip.now w.strip-is n (omega arith) (omega arith) (omega arith) inv.0 inv.1 inv.2 inv.3
    ]

pub invariant_of-placed : goal.invariant_of-placed
invariant_of-placed g c =
    let sheet = c.args.self.now.sheet.now in
    let xs = c.rows-rows.result.now in
    let r = c.loop-r.r in
    let m : length xs ≡ vec_len sheet.rows = ap length c.rows-rows.ensures.value ∙ sym sheet.rows.ok.0 in
    record { operands = row_there sheet r (get_or xs r row.True) (omega arith) (row_read sheet xs r row.True c.rows-rows.ensures.value (omega arith)) }
