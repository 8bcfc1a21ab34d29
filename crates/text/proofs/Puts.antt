-- What a draft holds, before and after a row. Assumes nothing.
use Rattle.std.proofs.Common.{◌≡◌, ℕ, zero, suc, ◌+◌, ◌-◌, ◌<◌, ◌≤◌, true, ◌&&◌, ltb, List, [], ◌∷◌, ◌++◌, map, length, get_or, take, drop, None, Ok, Result, sym, ap, ◌∙◌, ⊎_elim, arith}
use Rattle.std.proofs.lemmas.List.{take_more, take_at, take-append-le, length-take, length-drop, length_push, length-map, get_or_append_left, get_or_push, get_or-take, get_or-drop, get_or_default}
use Rattle.std.proofs.lemmas.Bool.{cond-true, and_parts, lt-ltb, cases_lt}
use Rattle.sheet.specs.Formulas.{Formula, class}
use Rattle.sheet.specs.Rows.{there, separated, row_class, row_refusal, build}
use Rattle.sheet.specs.Sheets.{formulas_from, formed_from, formed, classes_of, grown, unless, row_answer}
use Rattle.sheet.specs.declared.refusal.Refusal.{Refusal}
use Rattle.sheet.specs.declared.row.Class.{Class}
use Rattle.sheet.specs.declared.row.Row.{Row}
use Rattle.sheet.specs.declared.row.Row.TheVariants as row
use Rattle.sheet.proofs.Built.{classes_push}
use Rattle.text.specs.Follow.{Follow}

-- a row that is not refused over a draft's classes
pub fits : (rows : List Row) (classes cs : List Class) (r : Row) → classes ≡ classes_of rows → cs ≡ classes → None ≡ row_refusal cs r → row_refusal (classes_of rows) r ≡ None
fits rows classes cs r sorts e h = ap (λ (k : List Class). row_refusal k r) (sym (e ∙ sorts)) ∙ sym h

-- the classes stay those of the rows
pub sorts_push : (rows : List Row) (classes cs : List Class) (r : Row) (c : Class) → classes ≡ classes_of rows → cs ≡ classes → c ≡ row_class cs r → classes ++ c ∷ [] ≡ classes_of (rows ++ r ∷ [])
sorts_push rows classes cs r c sorts e is =
    (λ i. sorts i ++ (is ∙ ap (λ (k : List Class). row_class k r) (e ∙ sorts)) i ∷ []) ∙ sym (classes_push rows r)

-- rows that follow one another, and one more
pub follow_push : (rows : List Row) (r : Row) → Follow rows → row_refusal (classes_of rows) r ≡ None → Follow (rows ++ r ∷ [])
follow_push rows r h fits k lt = ⊎_elim old new (cases_lt k (length rows))
  where
    Fits : List Row → Row → Type 0
    Fits before x = row_refusal (classes_of before) x ≡ None

    old : k < length rows → row_refusal (classes_of (take k (rows ++ r ∷ []))) (get_or (rows ++ r ∷ []) k row.True) ≡ None
    old l = (λ i. row_refusal (classes_of (take-append-le k rows (r ∷ []) (omega arith) i)) (get_or_append_left rows (r ∷ []) row.True k l i)) ∙ h k l

    new : length rows ≤ k → row_refusal (classes_of (take k (rows ++ r ∷ []))) (get_or (rows ++ r ∷ []) k row.True) ≡ None
    new l =
        let long = length_push rows r in
        let e : length rows ≡ k = omega arith in
        (λ i. row_refusal (classes_of (take_at rows (r ∷ []) k e i)) (get_or_push rows r row.True k e i)) ∙ fits

-- three tests that pass
passes : (cs : List Class) (r : Row) → length cs < 32 → there (length cs) r ≡ true → separated cs r ≡ true → row_refusal cs r ≡ None
passes cs r few t s =
    cond-true (ltb (length cs) 32) _ _ (lt-ltb (length cs) 32 few)
    ∙ cond-true (there (length cs) r) _ _ t
    ∙ cond-true (separated cs r) _ _ s

-- well-formed rows follow one another, counted after earlier rows
follow_from : (fs : List Formula) (rows : List Row) → formed_from fs rows ≡ true → length fs + length rows ≤ 32
    → (k : ℕ) → k < length rows → row_refusal (map class (formulas_from fs (take k rows))) (get_or rows k row.True) ≡ None
follow_from fs [] h le k lt = absurd (omega arith)
follow_from fs (x ∷ rows) h le zero lt =
    let gs = fs ++ build fs x ∷ [] in
    let p = and_parts (there (length fs) x) (separated (map class fs) x && formed_from gs rows) h in
    let q = and_parts (separated (map class fs) x) (formed_from gs rows) p.1 in
    let same = length-map fs class in
    passes (map class fs) x (omega arith) (ap (λ n. there n x) same ∙ p.0) q.0
follow_from fs (x ∷ rows) h le (suc k) lt =
    let gs = fs ++ build fs x ∷ [] in
    let p = and_parts (there (length fs) x) (separated (map class fs) x && formed_from gs rows) h in
    let q = and_parts (separated (map class fs) x) (formed_from gs rows) p.1 in
    let one = length_push fs (build fs x) in
    follow_from gs rows q.1 (omega arith) k (omega arith)

-- well-formed rows follow one another
pub follow_formed : (rows : List Row) → formed rows ≡ true → length rows ≤ 32 → Follow rows
follow_formed rows h le = follow_from [] rows h (omega arith)

-- a row of the draft that the sheet does not have yet is accepted by it
brought : (rows : List Row) (i : ℕ) (d : Row) → i < length rows → Follow rows → row_answer (take i rows) (get_or rows i d) ≡ Ok (length (take i rows))
brought rows i d lt follow =
    ap (λ x. unless x (length (take i rows))) (ap (row_refusal (classes_of (take i rows))) (get_or_default rows i d row.True lt) ∙ follow i lt)

-- and the sheet then has one row of the draft more
pub brought_rows : (rows was now : List Row) (i : ℕ) (d x : Row) (o : Result ℕ Refusal) → i < length rows → Follow rows → was ≡ take i rows → x ≡ get_or rows i d → o ≡ row_answer was x → now ≡ grown o was x → now ≡ take (i + 1) rows
brought_rows rows was now i d x o lt follow e same answer is =
    let ok : o ≡ Ok (length (take i rows)) = answer ∙ (λ j. row_answer (e j) (same j)) ∙ brought rows i d lt follow in
    is ∙ (λ j. grown (ok j) (e j) (same j)) ∙ sym (take_more rows i d lt)

-- a list from n on, as a slice has it
module _ (xs ys : List Row) (n j : ℕ) (same : ys ≡ xs) where
  -- an element of it
  pub later : (d : Row) → j < length (take (length ys - n) (drop n ys)) → (n + j < length xs) × (get_or (take (length ys - n) (drop n ys)) j d ≡ get_or xs (n + j) d)
  later d lt =
      let long = ap length same in
      (omega (arith, length-take (length ys - n) (drop n ys), length-drop n ys), get_or-take (length ys - n) (drop n ys) j d (omega (arith, length-take (length ys - n) (drop n ys), length-drop n ys)) ∙ get_or-drop n ys j d ∙ ap (λ l. get_or l (n + j) d) same)

  -- its end
  pub latest : length (take (length ys - n) (drop n ys)) ≤ j → length xs ≤ n + j
  latest le = let long = ap length same in omega (arith, length-take (length ys - n) (drop n ys), length-drop n ys)
