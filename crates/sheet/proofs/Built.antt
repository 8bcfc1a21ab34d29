-- The formulas, classes and form of a list of rows with one more at its end.
use Rattle.std.proofs.Common.{◌≡◌, ℕ, suc, ◌+◌, ◌<◌, Bool, true, false, cond, ◌&&◌, ltb, List, [], ◌∷◌, ◌++◌, map, length, get_or, Some, None, sym, refl, ap, ◌∙◌, arith}
use Rattle.std.proofs.Math.ListN.{get_or-map}
use Rattle.std.proofs.lemmas.List.{map_push, length_push, length-map}
use Rattle.std.proofs.lemmas.Bool.{and_parts, and_from, ltb-true, lt-ltb}
use Rattle.sheet.specs.Formulas.{Formula, False, class}
use Rattle.sheet.specs.Limits.{max_rows}
use Rattle.sheet.specs.Rows.{there, separated, row_class, class_at, build, row_refusal, rule_there}
use Rattle.sheet.specs.declared.refusal.Refusal.{Refusal}
use Rattle.sheet.specs.Sheets.{formulas_from, formulas, formed_from, classes_of, ruled}
use Rattle.sheet.specs.declared.row.Row.{Row}
use Rattle.sheet.specs.declared.row.Row.TheVariants as row
use Rattle.sheet.specs.declared.row.Rule.{Rule}

-- one more row adds one more formula, built from those before it
pub formulas_push : (fs : List Formula) (rows : List Row) (r : Row) → formulas_from fs (rows ++ r ∷ []) ≡ formulas_from fs rows ++ build (formulas_from fs rows) r ∷ []
formulas_push fs [] r = refl
formulas_push fs (x ∷ rows) r = formulas_push (fs ++ build fs x ∷ []) rows r

-- there are as many formulas as rows
pub length_formulas : (fs : List Formula) (rows : List Row) → length (formulas_from fs rows) ≡ length fs + length rows
length_formulas fs [] = omega arith
length_formulas fs (x ∷ rows) =
    let more = length_formulas (fs ++ build fs x ∷ []) rows in
    let one = length_push fs (build fs x) in
    omega arith

-- there are as many classes as rows
pub length_classes : (rows : List Row) → length (classes_of rows) ≡ length rows
length_classes rows =
    let long = length-map (formulas rows) class in
    let all = length_formulas [] rows in
    omega arith

-- well-formed rows stay so with one more that passes both tests
pub formed_push : (fs : List Formula) (rows : List Row) (r : Row) → formed_from fs rows ≡ true → there (length fs + length rows) r ≡ true → separated (map class (formulas_from fs rows)) r ≡ true → formed_from fs (rows ++ r ∷ []) ≡ true
formed_push fs [] r h t s =
    let e : length fs + 0 ≡ length fs = omega arith in
    and_from (there (length fs) r) (separated (map class fs) r && true) (rw e at t) (and_from (separated (map class fs) r) true s refl)
formed_push fs (x ∷ rows) r h t s =
    let gs = fs ++ build fs x ∷ [] in
    let p = and_parts (there (length fs) x) (separated (map class fs) x && formed_from gs rows) h in
    let q = and_parts (separated (map class fs) x) (formed_from gs rows) p.1 in
    let one = length_push fs (build fs x) in
    let e : length fs + suc (length rows) ≡ length gs + length rows = omega arith in
    and_from (there (length fs) x) (separated (map class fs) x && formed_from gs (rows ++ r ∷ [])) p.0 (and_from (separated (map class fs) x) (formed_from gs (rows ++ r ∷ [])) q.0 (formed_push gs rows r q.1 (rw e at t) s))

-- an operand's class is that of its formula
pub class_get_or : (fs : List Formula) (a : ℕ) → class (get_or fs a False) ≡ class_at (map class fs) a
class_get_or fs a = sym (get_or-map class fs a False)

-- the class of a row from the classes before it is that of its formula
pub class_build : (fs : List Formula) (r : Row) → class (build fs r) ≡ row_class (map class fs) r
class_build fs row.True = refl
class_build fs row.False = refl
class_build fs (row.Symbol s) = refl
class_build fs (row.Not a) = class_get_or fs a
class_build fs (row.And a b) = rw (class_get_or fs a, class_get_or fs b)
class_build fs (row.Or a b) = rw (class_get_or fs a, class_get_or fs b)
class_build fs (row.Next a) = refl
class_build fs (row.Yest a) = refl
class_build fs (row.Until a b) = refl
class_build fs (row.Since a b) = refl
class_build fs row.Start = refl
class_build fs row.End = refl

-- one more row adds its class
pub classes_push : (rows : List Row) (r : Row) → classes_of (rows ++ r ∷ []) ≡ classes_of rows ++ row_class (classes_of rows) r ∷ []
classes_push rows r =
    ap (map class) (formulas_push [] rows r)
    ∙ (map_push class (formulas rows) (build (formulas rows) r)
    ∙ ap (λ k. classes_of rows ++ k ∷ []) (class_build (formulas rows) r))

-- rules stay within the rows with one more that is
pub ruled_push : (n : ℕ) (rules : List Rule) (r : Rule) → ruled n rules ≡ true → rule_there n r ≡ true → ruled n (rules ++ r ∷ []) ≡ true
ruled_push n [] r h k = and_from (rule_there n r) true k refl
ruled_push n (x ∷ rules) r h k =
    let p = and_parts (rule_there n x) (ruled n rules) h in
    and_from (rule_there n x) (ruled n (rules ++ r ∷ [])) p.0 (ruled_push n rules r p.1 k)

-- rules stay within the rows when there is one more row
pub ruled_more : (n : ℕ) (rules : List Rule) → ruled n rules ≡ true → ruled (n + 1) rules ≡ true
ruled_more n [] h = refl
ruled_more n (x ∷ rules) h =
    let p = and_parts (rule_there n x) (ruled n rules) h in
    let q = and_parts (ltb x.activator n) (ltb x.target n) p.0 in
    let a = ltb-true x.activator n q.0 in
    let b = ltb-true x.target n q.1 in
    and_from (rule_there (n + 1) x) (ruled (n + 1) rules) (and_from (ltb x.activator (n + 1)) (ltb x.target (n + 1)) (lt-ltb x.activator (n + 1) (omega arith)) (lt-ltb x.target (n + 1) (omega arith))) (ruled_more n rules p.1)

-- three tests that all passed
passed : (a b c : Bool) (x y z : Refusal) → cond a (cond b (cond c None (Some x)) (Some y)) (Some z) ≡ None → (a ≡ true) × (b ≡ true) × (c ≡ true)
passed true true true x y z h = (refl, refl, refl)
passed true true false x y z h = absurd cc
passed true false c x y z h = absurd cc
passed false b c x y z h = absurd cc

-- what is known of a row that is not refused
pub record Accepted (rows : List Row) (r : Row) : Type 0 where
  pub room : length rows < max_rows
  pub operands : there (length rows) r ≡ true
  pub classes : separated (classes_of rows) r ≡ true

-- and that it is known
pub accepted : (rows : List Row) (r : Row) → row_refusal (classes_of rows) r ≡ None → Accepted rows r
accepted rows r h =
    let cs = classes_of rows in
    let p = passed (ltb (length cs) max_rows) (there (length cs) r) (separated cs r) _ _ _ h in
    let e = length_classes rows in
    let l = ltb-true (length cs) max_rows p.0 in
    record {
      room = omega arith;
      operands = ap (λ k. there k r) (sym e) ∙ p.1;
      classes = p.2;
    }
