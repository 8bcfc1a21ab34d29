-- The cells of a mirrored sheet on a reversed trace.
use Rattle.std.proofs.Common.{◌≡◌, ℕ, ◌+◌, ◌-◌, ◌*◌, leb, List, map, reverse, length, get_or, drop, Ok, Err, Result, sym, refl, ap, ◌∙◌, subst, arith}
use Rattle.std.proofs.lemmas.List.{length-map, length-reverse, get_or-map}
use Rattle.sheet.specs.Rows.{mirror_row}
use Rattle.sheet.specs.Sheets.{formula}
use Rattle.sheet.specs.declared.row.Row.{Row}
use Rattle.trace.specs.Readings.{Reading, reading_at, shows, raised, outside}
use Rattle.layers.specs.Bounds.{length_reversed}
use Rattle.layers.specs.Layers.{reversed}
use Rattle.label.specs.Labels.{label_at}
use Rattle.label.specs.Strips.{cell, label_answer, labelled}
use Rattle.label.specs.Theorems.{Tells}
use Rattle.label.specs.Truth.{Holds}
use Rattle.label.specs.declared.refusal.Refusal.{Refusal}
use Rattle.label.specs.declared.verdict.Verdict.{Verdict}
use Rattle.label.specs.declared.verdict.Verdict.TheVariants.{No}
use Rattle.label.proofs.Blocks.{labels_at}
use Rattle.label.proofs.Flips.{Across, reading_reverse, flipped_labels}
use Rattle.label.proofs.Told.{answer_count}
use Rattle.label.proofs.Truths.{settled, reading_in}
use Rattle.mirroring.specs.Mirroring.{FromTheEnd}

-- a raised reading shows the same symbols
shows_raised : (rd : Reading) (s : ℕ) → shows (raised rd) s ≡ shows rd s
shows_raised (Ok e) s = refl
shows_raised (Err f) s = refl

-- a reversed trace shows what the trace does, from its other end
shows_reversed : (rs : List Reading) (i j : ℕ) → Across (length rs) i j → (s : ℕ) → shows (reading_at rs i) s ≡ shows (reading_at (reversed rs) j) s
shows_reversed rs i j x s =
    let l = x.0 in
    let h = x.1 in
    let long = length-reverse rs in
    let back = reverse rs in
    let there : reading_at (reversed rs) j ≡ raised (reading_at back j) =
    reading_in (reversed rs) j h ∙ (get_or-map raised back (j - 1) (outside j) (outside j) (omega arith) ∙ ap raised (sym (reading_in back j h))) in
    sym (ap (λ rd. shows rd s) there ∙ (shows_raised (reading_at back j) s ∙ ap (λ rd. shows rd s) (sym (reading_reverse rs i j x))))

-- the cells that settling leaves, seen from the other end
pub from_the_end : (o : Result ℕ Refusal) (rs : List Reading) (rows : List Row) (m cells : ℕ) (was strip : List Verdict) → o ≡ label_answer (length rs) m cells → strip ≡ labelled o No (reversed rs) (map mirror_row rows) was → FromTheEnd o rs rows strip
from_the_end (Ok n) rs rows m cells was strip a e = λ i r l h u.
    let count : n ≡ length rs = answer_count (leb (length rs * m) cells) n (length rs) _ a in
    let back = reversed rs in
    let rows' = map mirror_row rows in
    let long = length_reversed rs in
    let many : length rows' ≡ length rows = length-map rows mirror_row in
    let j = length rs - i + 1 in
    let there : get_or strip (cell (length rows') j r) No ≡ label_at No back rows' j r =
    ap (λ xs. get_or xs (cell (length rows') j r) No) e ∙ labels_at No back rows' (drop (length back * length rows') was) j r (omega arith) (omega arith) (omega arith) in
    let same : label_at No back rows' j r ≡ label_at No rs rows i r = flipped_labels rs back long (shows_reversed rs) rows r i l (omega arith) in
    let at : n - i + 1 ≡ j = ap (λ k. k - i + 1) count in
    let is : get_or strip (cell (length rows) (n - i + 1) r) No ≡ label_at No rs rows i r =
    ap (λ k. get_or strip (cell (length rows) k r) No) at ∙ (ap (λ k. get_or strip (cell k j r) No) (sym many) ∙ (there ∙ same)) in
    record {
      label = is;
      truth = subst (λ v. Tells v (Holds rs (formula rows r) i)) (sym is) (settled rs (formula rows r) i l (omega arith)).0;
    }
from_the_end (Err x) rs rows m cells was strip a e = tt
