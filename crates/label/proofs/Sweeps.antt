-- One turn of a sweep: a cell that is written with its row's verdict.
use Rattle.std.proofs.Common.{◌≡◌, ℕ, ◌+◌, ◌-◌, ◌*◌, ◌<◌, ◌≤◌, Bool, true, false, ◌≢◌, List, length, get_or, drop, set, sym, refl, ap, ◌∙◌, subst, ⊎_elim, mul-le-mul_right, arith}
use Rattle.std.proofs.lemmas.List.{get_or-set_same, get_or-set_other, drop-set-lt}
use Rattle.std.proofs.lemmas.Bool.{cases_eq, both_ways}
use Rattle.sheet.specs.Classes.{present_or_past}
use Rattle.label.specs.Labels.{verdict, label_at}
use Rattle.trace.specs.Readings.{Reading, reading_at}
use Rattle.sheet.specs.Rows.{row_class, class_at, build}
use Rattle.sheet.specs.Sheets.{formulas, formed, classes_of}
use Rattle.label.specs.Steps.{row_verdict, near_before, near_after, back_only, any_row, Filled}
use Rattle.label.specs.Strips.{cell}
use Rattle.sheet.specs.declared.row.Row.{Row}
use Rattle.label.specs.declared.verdict.Verdict.{Verdict}
use Rattle.label.specs.declared.verdict.Verdict.TheVariants.{No}
use borrow.Rule.Slice.PartMut.{put_mid}
use Rattle.label.proofs.Places.{cell_row, cell_instant, cell_within, lent, lent_at, lent_set}
use Rattle.sheet.proofs.Rowwise.{Sound, sound, class_row}
use Rattle.label.proofs.Unrolled.{unroll_back, unroll_ahead, agree_all, agree_back, near_before_agree, near_after_agree}

-- the cell of row r at instant i holds its verdict
abbrev pub Right : Verdict → List Reading → List Row → List Verdict → ℕ → ℕ → Type 0
Right e rs rows strip i r = get_or strip (cell (length rows) i r) No ≡ label_at e rs rows i r

-- the rows below r that are picked hold their verdicts at instant i
abbrev pub Upto : (ℕ → Bool) → Verdict → List Reading → List Row → ℕ → ℕ → List Verdict → Type 0
Upto pick e rs rows i r strip = (q : ℕ) → q < r → pick q ≡ true → Right e rs rows strip i q

module _ (e : Verdict) (rs : List Reading) (rows : List Row) (strip : List Verdict) (i r : ℕ) (v : Verdict) (low : 1 ≤ i) (within : r < length rows) (room : i * length rows ≤ length strip) (right : v ≡ label_at e rs rows i r) where
  -- the strip with the cell written
  abbrev written : List Verdict
  written = set strip (cell (length rows) i r) v

  -- the cell that is written is right
  right-here : Right e rs rows written i r
  right-here =
      let w = cell_within (length rows) i r low within in
      get_or-set_same strip (cell (length rows) i r) v No (omega arith) ∙ right

  -- a right cell stays right
  right_there : (j q : ℕ) → 1 ≤ j → q < length rows → Right e rs rows strip j q → Right e rs rows written j q
  right_there j q l h k =
      ⊎_elim
      (λ (s : cell (length rows) j q ≡ cell (length rows) i r).
      let a = cell_instant (length rows) j i q r l low h within s in
      let b = cell_row (length rows) j i q r h within s in
      let P : ℕ → ℕ → Type 0 = λ x y. Right e rs rows written x y in
      subst (λ x. P x q) (sym a) (subst (λ y. P i y) (sym b) right-here))
      (λ (s : cell (length rows) j q ≢ cell (length rows) i r). get_or-set_other strip (cell (length rows) i r) (cell (length rows) j q) v No s ∙ k)
      (cases_eq (cell (length rows) j q) (cell (length rows) i r))

  -- filled instants stay filled
  pub filled_kept : (pick : ℕ → Bool) (lo hi : ℕ) → 1 ≤ lo → Filled pick e rs rows lo hi strip → Filled pick e rs rows lo hi written
  filled_kept pick lo hi l h = λ j q a b c p. right_there j q (omega arith) c (h j q a b c p)

  -- the rows of the instant are right one row further
  pub upto_more : (pick : ℕ → Bool) → Upto pick e rs rows i r strip → Upto pick e rs rows i (r + 1) written
  upto_more pick h = λ q l p.
      ⊎_elim
      (λ (s : q ≡ r). subst (λ y. Right e rs rows written i y) (sym s) right-here)
      (λ (s : q ≢ r). right_there i q low (omega arith) (h q (omega arith) p))
      (cases_eq q r)

  -- the cells past the instants stay
  pub rest_kept : (n : ℕ) → i ≤ n → drop (n * length rows) written ≡ drop (n * length rows) strip
  rest_kept n l =
      let w = cell_within (length rows) i r low within in
      let m = mul-le-mul_right (length rows) l in
      drop-set-lt (n * length rows) strip (cell (length rows) i r) v (omega arith)

-- a row that is not picked is passed over
pub upto_skip : (pick : ℕ → Bool) (e : Verdict) (rs : List Reading) (rows : List Row) (i r : ℕ) (strip : List Verdict) → pick r ≡ false → Upto pick e rs rows i r strip → Upto pick e rs rows i (r + 1) strip
upto_skip pick e rs rows i r strip n h = λ q l p.
    ⊎_elim
    (λ (s : q ≡ r). absurd (both_ways (pick r) n (subst (λ y. pick y ≡ true) s p)))
    (λ (s : q ≢ r). h q (omega arith) p)
    (cases_eq q r)

-- what the row labeller writes is the row's verdict
module _ (e : Verdict) (rs : List Reading) (rows : List Row) (strip : List Verdict) (i r : ℕ) (x : Row) (here : ℕ → Verdict) (low : 1 ≤ i) (ok : formed rows ≡ true) (within : r < length rows) (is : x ≡ get_or rows r x) where
  -- the row is sound
  row-sound : Sound (formulas rows) x r
  row-sound = subst (λ y. Sound (formulas rows) y r) (sym is) (sound rows r x ok within)

  -- its label is the verdict of the formula that it builds
  row_is : label_at e rs rows i r ≡ verdict e rs (build (formulas rows) x) i
  row_is = ap (λ f. verdict e rs f i) row-sound.made

  -- its class is made of those before it
  row-classed : class_at (classes_of rows) r ≡ row_class (classes_of rows) x
  row-classed = class_row rows r x ok within ∙ ap (row_class (classes_of rows)) (sym is)

  -- in the forward sweep
  pub forward_right : present_or_past (class_at (classes_of rows) r) ≡ true → ((q : ℕ) → q < r → here q ≡ get_or strip (cell (length rows) i q) No) → Filled (back_only rows) e rs rows 1 (i - 1) strip → Upto (back_only rows) e rs rows i r strip → (near : Verdict) → near ≡ near_before (λ q. get_or strip ((i - 2) * length rows + q) No) i r x → row_verdict x (reading_at rs i) here near ≡ label_at e rs rows i r
  forward_right n h before upto near k =
      let cs = classes_of rows in
      let n' : present_or_past (row_class cs x) ≡ true = ap present_or_past (sym row-classed) ∙ n in
      let s = row-sound in
      let at : (1 < i → (q : ℕ) → q < length rows → present_or_past (class_at cs q) ≡ true → get_or strip ((i - 2) * length rows + q) No ≡ label_at e rs rows (i - 1) q) =
      λ l q u c.
      let o : i - 2 ≡ i - 1 - 1 = omega arith in
      ap (λ k. get_or strip (k * length rows + q) No) o ∙ before (i - 1) q (omega arith) (omega arith) u c in
      let first = agree_back here (label_at e rs rows i) (reading_at rs i) near r cs x s.operands s.classes n' (λ q l c. h q l ∙ upto q l c) in
      let second = k ∙ near_before_agree (λ q. get_or strip ((i - 2) * length rows + q) No) (label_at e rs rows (i - 1)) i r cs x s.operands s.classes n' (λ l q u c. at l q (omega arith) c) (λ l. at l r within n) in
      let third = unroll_back e rs (formulas rows) i r low cs (label_at e rs rows (i - 1)) x n' (λ q. refl) (ap (λ f. verdict e rs f (i - 1)) s.made) in
      first ∙ (ap (row_verdict x (reading_at rs i) (label_at e rs rows i)) second ∙ (sym third ∙ sym row_is))

  -- in the backward sweep
  pub backward_right : present_or_past (class_at (classes_of rows) r) ≡ false → ((q : ℕ) → q < r → here q ≡ get_or strip (cell (length rows) i q) No) → Filled any_row e rs rows (i + 1) (length rs) strip → Upto any_row e rs rows i r strip → (near : Verdict) → near ≡ near_after (λ q. get_or strip (i * length rows + q) No) e (length rs) i r x → row_verdict x (reading_at rs i) here near ≡ label_at e rs rows i r
  backward_right n h later upto near k =
      let cs = classes_of rows in
      let n' : present_or_past (row_class cs x) ≡ false = ap present_or_past (sym row-classed) ∙ n in
      let s = row-sound in
      let at : (i < length rs → (q : ℕ) → q ≤ r → get_or strip (i * length rows + q) No ≡ label_at e rs rows (i + 1) q) =
      λ l q u.
      let o : i ≡ i + 1 - 1 = omega arith in
      ap (λ k. get_or strip (k * length rows + q) No) o ∙ later (i + 1) q (omega arith) (omega arith) (omega arith) refl in
      let first = agree_all here (label_at e rs rows i) (reading_at rs i) near r x s.operands (λ q l. h q l ∙ upto q l refl) in
      let second = k ∙ near_after_agree (λ q. get_or strip (i * length rows + q) No) (label_at e rs rows (i + 1)) e (length rs) i r x s.operands at in
      let third = unroll_ahead e rs (formulas rows) i r low cs (label_at e rs rows (i + 1)) x n' (λ q. refl) (ap (λ f. verdict e rs f (i + 1)) s.made) in
      first ∙ (ap (row_verdict x (reading_at rs i) (label_at e rs rows i)) second ∙ (sym third ∙ sym row_is))

-- One turn at row r of instant i, over plain values: m is the number of rows, part is what the lent part holds after it.
module _ (e : Verdict) (rs : List Reading) (rows : List Row) (m i r : ℕ) (strip strip' part : List Verdict) (x : Row) (rd : Reading) (near : Verdict) (many : m ≡ length rows) (low : 1 ≤ i) (room : i * m ≤ length strip) (within : r < m) (ok : formed rows ≡ true) (is : x ≡ get_or rows r x) (reads : rd ≡ reading_at rs i) (labels : part ≡ set (lent m i strip) r (row_verdict x rd (λ q. get_or (lent m i strip) q No) near)) (puts : strip' ≡ put_mid ((i - 1) * m) ((i - 1) * m + m - (i - 1) * m) strip part) where
  -- the cells that the row labeller is lent
  abbrev here-at : ℕ → Verdict
  here-at q = get_or (lent m i strip) q No

  -- the instant has its room in the strip
  room-rows : i * length rows ≤ length strip
  room-rows = rw many at room

  -- the lent cells of earlier rows are those of the strip
  cells-here : (q : ℕ) → q < r → here-at q ≡ get_or strip (cell (length rows) i q) No
  cells-here q l = lent_at m i q strip low room (omega arith) No ∙ ap (λ k. get_or strip (cell k i q) No) many

  -- the strip after the turn has one cell written
  is_set : strip' ≡ set strip (cell (length rows) i r) (row_verdict x rd here-at near)
  is_set = lent_set m i r strip low room within strip' part (row_verdict x rd here-at near) labels puts ∙ ap (λ k. set strip (cell k i r) (row_verdict x rd here-at near)) many

  pub forward_turn : present_or_past (class_at (classes_of rows) r) ≡ true → near ≡ near_before (λ q. get_or strip ((i - 2) * m + q) No) i r x → Filled (back_only rows) e rs rows 1 (i - 1) strip → Upto (back_only rows) e rs rows i r strip → Filled (back_only rows) e rs rows 1 (i - 1) strip' × Upto (back_only rows) e rs rows i (r + 1) strip' × (drop (i * length rows) strip' ≡ drop (i * length rows) strip)
  forward_turn n k before upto =
      let v = row_verdict x rd here-at near in
      let within' : r < length rows = omega arith in
      let near-is = k ∙ ap (λ w. near_before (λ q. get_or strip ((i - 2) * w + q) No) i r x) many in
      let right = ap (λ y. row_verdict x y here-at near) reads ∙ forward_right e rs rows strip i r x here-at low ok within' is n cells-here before upto near near-is in
      let P : List Verdict → Type 0 = λ t. Filled (back_only rows) e rs rows 1 (i - 1) t × Upto (back_only rows) e rs rows i (r + 1) t × (drop (i * length rows) t ≡ drop (i * length rows) strip) in
      subst P (sym is_set) (
        filled_kept e rs rows strip i r v low within' room-rows right (back_only rows) 1 (i - 1) (omega arith) before,
        upto_more e rs rows strip i r v low within' room-rows right (back_only rows) upto,
        rest_kept e rs rows strip i r v low within' room-rows right i (omega arith),
      )

  -- the same backward: n is the length of the trace, b the verdict beyond it, was the strip as the sweep found it
  pub backward_turn : present_or_past (class_at (classes_of rows) r) ≡ false → (n : ℕ) → n ≡ length rs → i ≤ n → (k : ℕ) → k ≡ length rows → (b : Verdict) → b ≡ e → near ≡ near_after (λ q. get_or strip (i * m + q) No) b n i r x → (was : List Verdict) → Filled (back_only rows) e rs rows 1 n strip → Filled any_row e rs rows (i + 1) n strip → Upto any_row e rs rows i r strip → drop (n * k) strip ≡ drop (n * k) was → Filled (back_only rows) e rs rows 1 n strip' × Filled any_row e rs rows (i + 1) n strip' × Upto any_row e rs rows i (r + 1) strip' × (drop (n * k) strip' ≡ drop (n * k) was)
  backward_turn c n count h k long b beyond near-is was back later upto rest =
      let v = row_verdict x rd here-at near in
      let within' : r < length rows = omega arith in
      let near' = near-is ∙ (ap (λ w. near_after (λ q. get_or strip (i * w + q) No) b n i r x) many ∙ (ap (λ w. near_after (λ q. get_or strip (i * length rows + q) No) w n i r x) beyond ∙ ap (λ w. near_after (λ q. get_or strip (i * length rows + q) No) e w i r x) count)) in
      let later' = subst (λ w. Filled any_row e rs rows (i + 1) w strip) count later in
      let right = ap (λ y. row_verdict x y here-at near) reads ∙ backward_right e rs rows strip i r x here-at low ok within' is c cells-here later' upto near near' in
      let P : List Verdict → Type 0 = λ t. Filled (back_only rows) e rs rows 1 n t × Filled any_row e rs rows (i + 1) n t × Upto any_row e rs rows i (r + 1) t × (drop (n * k) t ≡ drop (n * k) was) in
      subst P (sym is_set) (
        filled_kept e rs rows strip i r v low within' room-rows right (back_only rows) 1 n (omega arith) back,
        filled_kept e rs rows strip i r v low within' room-rows right any_row (i + 1) n (omega arith) later,
        upto_more e rs rows strip i r v low within' room-rows right any_row upto,
        ap (λ w. drop (n * w) (set strip (cell (length rows) i r) v)) long ∙ (rest_kept e rs rows strip i r v low within' room-rows right n h ∙ (ap (λ w. drop (n * w) strip) (sym long) ∙ rest)),
      )

-- a row that the forward sweep has labelled
pub backward_skip : (e : Verdict) (rs : List Reading) (rows : List Row) (i r n k : ℕ) (strip strip' was : List Verdict) → strip' ≡ strip → present_or_past (class_at (classes_of rows) r) ≡ true → 1 ≤ i → i ≤ n → r < length rows → Filled (back_only rows) e rs rows 1 n strip → Filled any_row e rs rows (i + 1) n strip → Upto any_row e rs rows i r strip → drop (n * k) strip ≡ drop (n * k) was → Filled (back_only rows) e rs rows 1 n strip' × Filled any_row e rs rows (i + 1) n strip' × Upto any_row e rs rows i (r + 1) strip' × (drop (n * k) strip' ≡ drop (n * k) was)
backward_skip e rs rows i r n k strip strip' was s c low high within back later upto rest =
    let P : List Verdict → Type 0 = λ t. Filled (back_only rows) e rs rows 1 n t × Filled any_row e rs rows (i + 1) n t × Upto any_row e rs rows i (r + 1) t × (drop (n * k) t ≡ drop (n * k) was) in
    let more : Upto any_row e rs rows i (r + 1) strip = λ q l p.
    ⊎_elim
    (λ (u : q ≡ r). subst (λ y. Right e rs rows strip i y) (sym u) (back i r low high within c))
    (λ (u : q ≢ r). upto q (omega arith) p)
    (cases_eq q r) in
    subst P (sym s) (back, later, more, rest)

-- an instant whose rows are all labelled joined the later ones
pub instant_done : (e : Verdict) (rs : List Reading) (rows : List Row) (i n m : ℕ) (strip : List Verdict) → length rows ≤ m → Filled any_row e rs rows (i + 1) n strip → Upto any_row e rs rows i m strip → Filled any_row e rs rows i n strip
instant_done e rs rows i n m strip l later upto = λ j q a b c p.
    ⊎_elim
    (λ (u : j ≡ i). subst (λ y. Right e rs rows strip y q) (sym u) (upto q (omega arith) p))
    (λ (u : j ≢ i). later j q (omega arith) b c p)
    (cases_eq j i)
