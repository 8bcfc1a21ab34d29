-- A mirrored sheet: its formulas and classes are the mirrored ones, and it is well formed.
use Rattle.std.proofs.Common.{◌≡◌, ℕ, List, [], ◌∷◌, ◌++◌, map, length, get_or, vec_items, Vec, sym, refl, ap, ◌∙◌}
use Rattle.std.proofs.Math.ListN.{get_or-map}
use Rattle.std.proofs.lemmas.List.{map_push, length-map, with_items_is}
use Rattle.std.specs.Vec.{with_items}
use Rattle.sheet.specs.Classes.{joined, mirror_class, present_or_past, present_or_future}
use Rattle.sheet.specs.Formulas.{Formula, True, False, Symbol, Not, And, Or, Next, Yest, Until, Since, Start, End, class, mirror}
use Rattle.sheet.specs.Rows.{there, separated, class_at, build, mirror_row}
use Rattle.sheet.specs.Sheets.{formulas_from, formulas, formula, formed_from, classes_of}
use Rattle.sheet.specs.Theorems.{Mirrors}
use Rattle.sheet.specs.declared.row.Class.{Class}
use Rattle.sheet.specs.declared.row.Class.TheVariants.{Present, Past, Future, Mixed}
use Rattle.sheet.specs.declared.row.Row.{Row}
use Rattle.sheet.specs.declared.row.Row.TheVariants as row

-- joining and mirroring classes commute
joined_mirror : (c d : Class) → joined (mirror_class c) (mirror_class d) ≡ mirror_class (joined c d)
joined_mirror Present Present = refl
joined_mirror Present Past = refl
joined_mirror Present Future = refl
joined_mirror Present Mixed = refl
joined_mirror Past Present = refl
joined_mirror Past Past = refl
joined_mirror Past Future = refl
joined_mirror Past Mixed = refl
joined_mirror Future Present = refl
joined_mirror Future Past = refl
joined_mirror Future Future = refl
joined_mirror Future Mixed = refl
joined_mirror Mixed Present = refl
joined_mirror Mixed Past = refl
joined_mirror Mixed Future = refl
joined_mirror Mixed Mixed = refl

-- a mirrored class is present or future where the class is present or past
future_mirror : (c : Class) → present_or_future (mirror_class c) ≡ present_or_past c
future_mirror Present = refl
future_mirror Past = refl
future_mirror Future = refl
future_mirror Mixed = refl

-- a mirrored class is present or past where the class is present or future
past_mirror : (c : Class) → present_or_past (mirror_class c) ≡ present_or_future c
past_mirror Present = refl
past_mirror Past = refl
past_mirror Future = refl
past_mirror Mixed = refl

-- the class of a mirrored formula is the mirrored class
pub class_mirror : (f : Formula) → class (mirror f) ≡ mirror_class (class f)
class_mirror True = refl
class_mirror False = refl
class_mirror (Symbol s) = refl
class_mirror (Not a) = class_mirror a
class_mirror (And a b) = rw (class_mirror a, class_mirror b) (joined_mirror (class a) (class b))
class_mirror (Or a b) = rw (class_mirror a, class_mirror b) (joined_mirror (class a) (class b))
class_mirror (Next a) = refl
class_mirror (Yest a) = refl
class_mirror (Until a b) = refl
class_mirror (Since a b) = refl
class_mirror Start = refl
class_mirror End = refl

-- the formula of an operand, among mirrored formulas
get_or_mirror : (fs : List Formula) (a : ℕ) → get_or (map mirror fs) a False ≡ mirror (get_or fs a False)
get_or_mirror fs a = get_or-map mirror fs a False

-- a mirrored row builds the mirrored formula
build_mirror : (fs : List Formula) (r : Row) → build (map mirror fs) (mirror_row r) ≡ mirror (build fs r)
build_mirror fs row.True = refl
build_mirror fs row.False = refl
build_mirror fs (row.Symbol s) = refl
build_mirror fs (row.Not a) = rw (get_or_mirror fs a)
build_mirror fs (row.And a b) = rw (get_or_mirror fs a, get_or_mirror fs b)
build_mirror fs (row.Or a b) = rw (get_or_mirror fs a, get_or_mirror fs b)
build_mirror fs (row.Next a) = rw (get_or_mirror fs a)
build_mirror fs (row.Yest a) = rw (get_or_mirror fs a)
build_mirror fs (row.Until a b) = rw (get_or_mirror fs a, get_or_mirror fs b)
build_mirror fs (row.Since a b) = rw (get_or_mirror fs a, get_or_mirror fs b)
build_mirror fs row.Start = refl
build_mirror fs row.End = refl

-- the formulas of mirrored rows are the mirrors of the formulas
pub formulas_mirror_from : (fs : List Formula) (rows : List Row) → formulas_from (map mirror fs) (map mirror_row rows) ≡ map mirror (formulas_from fs rows)
formulas_mirror_from fs [] = refl
formulas_mirror_from fs (r ∷ rows) =
    ap (λ g. formulas_from (map mirror fs ++ g ∷ []) (map mirror_row rows)) (build_mirror fs r)
    ∙ (ap (λ gs. formulas_from gs (map mirror_row rows)) (sym (map_push mirror fs (build fs r)))
    ∙ formulas_mirror_from (fs ++ build fs r ∷ []) rows)

-- the classes of mirrored formulas are the mirrored classes
map_class_mirror : (fs : List Formula) → map class (map mirror fs) ≡ map mirror_class (map class fs)
map_class_mirror [] = refl
map_class_mirror (f ∷ fs) = rw (class_mirror f, map_class_mirror fs)

-- the classes of mirrored rows are the mirrored classes
pub classes_mirror : (rows : List Row) → classes_of (map mirror_row rows) ≡ map mirror_class (classes_of rows)
classes_mirror rows = ap (map class) (formulas_mirror_from [] rows) ∙ map_class_mirror (formulas rows)

-- mirroring keeps the operands where they are
there_mirror : (n : ℕ) (r : Row) → there n (mirror_row r) ≡ there n r
there_mirror n row.True = refl
there_mirror n row.False = refl
there_mirror n (row.Symbol s) = refl
there_mirror n (row.Not a) = refl
there_mirror n (row.And a b) = refl
there_mirror n (row.Or a b) = refl
there_mirror n (row.Next a) = refl
there_mirror n (row.Yest a) = refl
there_mirror n (row.Until a b) = refl
there_mirror n (row.Since a b) = refl
there_mirror n row.Start = refl
there_mirror n row.End = refl

-- an operand's class, among mirrored classes
at_mirror : (cs : List Class) (a : ℕ) → class_at (map mirror_class cs) a ≡ mirror_class (class_at cs a)
at_mirror cs a = get_or-map mirror_class cs a Present

-- a mirrored row passes the test of classes over mirrored classes as the row does
separated_mirror : (cs : List Class) (r : Row) → separated (map mirror_class cs) (mirror_row r) ≡ separated cs r
separated_mirror cs row.True = refl
separated_mirror cs row.False = refl
separated_mirror cs (row.Symbol s) = refl
separated_mirror cs (row.Not a) = refl
separated_mirror cs (row.And a b) = refl
separated_mirror cs (row.Or a b) = refl
separated_mirror cs (row.Next a) = rw (at_mirror cs a, past_mirror (class_at cs a))
separated_mirror cs (row.Yest a) = rw (at_mirror cs a, future_mirror (class_at cs a))
separated_mirror cs (row.Until a b) = rw (at_mirror cs a, at_mirror cs b, past_mirror (class_at cs a), past_mirror (class_at cs b))
separated_mirror cs (row.Since a b) = rw (at_mirror cs a, at_mirror cs b, future_mirror (class_at cs a), future_mirror (class_at cs b))
separated_mirror cs row.Start = refl
separated_mirror cs row.End = refl

-- mirrored rows are well formed as the rows are
pub formed_mirror_from : (fs : List Formula) (rows : List Row) → formed_from (map mirror fs) (map mirror_row rows) ≡ formed_from fs rows
formed_mirror_from fs [] = refl
formed_mirror_from fs (r ∷ rows) =
    let rest = ap (λ gs. formed_from gs (map mirror_row rows)) (ap (λ g. map mirror fs ++ g ∷ []) (build_mirror fs r) ∙ sym (map_push mirror fs (build fs r))) ∙ formed_mirror_from (fs ++ build fs r ∷ []) rows in
    rw (rest, length-map fs mirror, there_mirror (length fs) r, map_class_mirror fs, separated_mirror (map class fs) r)

-- a Vec whose elements were each replaced through a lent slice
pub refilled_map : {X Z : Type 0} (f : X → X) (v : Vec X Z) (ws xs : List X) → ws ≡ map f xs → xs ≡ vec_items v → vec_items (with_items v ws) ≡ map f (vec_items v)
refilled_map f v ws xs h k =
    let e = h ∙ ap (map f) k in
    with_items_is v ws (ap length e ∙ (length-map (vec_items v) f ∙ sym v.ok.0)) ∙ e

-- the formula of a mirrored row is the mirror of the row's
pub formula_mirror : (rows : List Row) (r : ℕ) → formula (map mirror_row rows) r ≡ mirror (formula rows r)
formula_mirror rows r = ap (λ fs. get_or fs r False) (formulas_mirror_from [] rows) ∙ get_or_mirror (formulas rows) r

-- rows that are each mirrored mirror the rows
pub mirrors : (rows mirrored : List Row) → mirrored ≡ map mirror_row rows → Mirrors rows mirrored
mirrors rows mirrored e = record {
  count = ap length e ∙ length-map rows mirror_row;
  each = λ r l. ap (λ xs. formula xs r) e ∙ formula_mirror rows r;
}
