-- A record that a reader hands out stands in the file, and a reader stays after a refusal. Assumes nothing.
use Rattle.std.proofs.Common.{◌≡◌, ℕ, zero, suc, ◌+◌, ◌-◌, ◌/◌, ◌%◌, ◌<◌, ◌≤◌, Bool, true, false, cond, eqb, leb, List, ◌∷◌, ◌++◌, length, get_or, take, drop, Some, None, Option, sym, refl, ap, ◌∙◌, arith}
use Rattle.std.specs.List.{between}
use Rattle.std.proofs.lemmas.List.{take-append-drop, drop-drop, drop_more, length-take-le, length-drop}
use Rattle.std.proofs.lemmas.Bool.{eqb-true, leb-true}
use Rattle.logfile.specs.declared.record.Kind.{Kind}
use Rattle.logfile.specs.declared.record.Kind.TheVariants.{Codes, Snapshots, Runs}
use Rattle.logfile.specs.Refusals.{Telling, bad_record}
use Rattle.logfile.specs.Log.{Found, at_end, refused, got, marked, stated, sized, found, after, moved}
use Rattle.logfile.specs.Laws.{mark, encoded, StandsThere, Stays, after_times}

-- a choice between a record and a refusal that is a record
record_chosen : (w : Bool) (j k : Kind) (part body : List ℕ) (p q : ℕ) (t : Telling) → cond w (got j part p) (refused t) ≡ got k body q
    → (w ≡ true) × (j ≡ k) × (part ≡ body) × (p ≡ q)
record_chosen true j k part body p q t e = (refl, (cc), (cc), (cc))
record_chosen false j k part body p q t e = let z : ◌≡◌ {A = ℕ} 0 1 = cc in absurd (omega arith)

-- what the record at p is made of
pub record Made (file : List ℕ) (p : ℕ) (k : Kind) (body : List ℕ) (q : ℕ) : Type 0 where
  pub named : marked (get_or file p 0) (get_or file (p + 1) 0) ≡ Some k
  pub fits : p + 4 + stated file p ≤ length file
  pub part : between (p + 4) (p + 4 + stated file p) file ≡ body
  pub place : p ≡ q

-- a record that its size allows is made so
sized_made : (file : List ℕ) (p : ℕ) (m : Option Kind) (k : Kind) (body : List ℕ) (q : ℕ) → marked (get_or file p 0) (get_or file (p + 1) 0) ≡ m
    → sized file p (stated file p) m ≡ got k body q → Made file p k body q
sized_made file p None k body q named e = let z : ◌≡◌ {A = ℕ} 0 1 = cc in absurd (omega arith)
sized_made file p (Some j) k body q named e =
    let parts = record_chosen (leb (p + 4 + stated file p) (length file)) j k (between (p + 4) (p + 4 + stated file p) file) body p q (bad_record p) e in
    record { named = named ∙ ap Some parts.1; fits = leb-true _ _ parts.0; part = parts.2; place = parts.3 }

-- a record behind the two tests on lengths is made so
tested_made : (end head : Bool) (f : Found) (t : Telling) (k : Kind) (body : List ℕ) (q : ℕ) → cond end at_end (cond head f (refused t)) ≡ got k body q → f ≡ got k body q
tested_made true head f t k body q e = let z : ◌≡◌ {A = ℕ} 0 1 = cc in absurd (omega arith)
tested_made false true f t k body q e = e
tested_made false false f t k body q e = let z : ◌≡◌ {A = ℕ} 0 1 = cc in absurd (omega arith)

-- a record that is handed out is made so
found_made : (file : List ℕ) (p : ℕ) (k : Kind) (body : List ℕ) (q : ℕ) → found file p ≡ got k body q → Made file p k body q
found_made file p k body q e =
    let m = marked (get_or file p 0) (get_or file (p + 1) 0) in
    sized_made file p m k body q refl (tested_made (eqb p (length file)) (leb (p + 4) (length file)) (sized file p (stated file p) m) (bad_record p) k body q e)

-- the tests of a mark, as values
named_by : (a one two three : Bool) (k : Kind) → cond a (cond one (Some Codes) (cond two (Some Snapshots) (cond three (Some Runs) None))) None ≡ Some k
    → (b : ℕ) → (one ≡ true → b ≡ 1) → (two ≡ true → b ≡ 2) → (three ≡ true → b ≡ 3) → (a ≡ true) × (b ≡ mark k)
named_by false one two three k e b h i j = let z : ◌≡◌ {A = ℕ} 0 1 = cc in absurd (omega arith)
named_by true true two three k e b h i j = let f : Codes ≡ k = cc in (refl, h refl ∙ ap mark f)
named_by true false true three k e b h i j = let f : Snapshots ≡ k = cc in (refl, i refl ∙ ap mark f)
named_by true false false true k e b h i j = let f : Runs ≡ k = cc in (refl, j refl ∙ ap mark f)
named_by true false false false k e b h i j = let z : ◌≡◌ {A = ℕ} 0 1 = cc in absurd (omega arith)

-- the two bytes of a mark
mark_bytes : (a b : ℕ) (k : Kind) → marked a b ≡ Some k → (a ≡ 90) × (b ≡ mark k)
mark_bytes a b k e =
    let both = named_by (eqb a 90) (eqb b 1) (eqb b 2) (eqb b 3) k e b (eqb-true b 1) (eqb-true b 2) (eqb-true b 3) in
    (eqb-true a 90 both.0, both.1)

-- the first four bytes from p on
four : (file : List ℕ) (p : ℕ) → p + 4 ≤ length file → drop p file ≡ get_or file p 0 ∷ get_or file (p + 1) 0 ∷ get_or file (p + 2) 0 ∷ get_or file (p + 3) 0 ∷ drop (p + 4) file
four file p fits =
    let step : (i j : ℕ) → i + 1 ≡ j → i < length file → drop i file ≡ get_or file i 0 ∷ drop j file = λ i j e l. drop_more file i 0 l ∙ ap (λ n. get_or file i 0 ∷ drop n file) e in
    step p (p + 1) refl (omega arith)
    ∙ ap (λ r. get_or file p 0 ∷ r) (step (p + 1) (p + 2) (omega arith) (omega arith)
    ∙ ap (λ r. get_or file (p + 1) 0 ∷ r) (step (p + 2) (p + 3) (omega arith) (omega arith)
    ∙ ap (λ r. get_or file (p + 2) 0 ∷ r) (step (p + 3) (p + 4) (omega arith) (omega arith))))

-- a record that is handed out stands in the file
pub stands_there : StandsThere
stands_there file body p q k bytes e =
    let made = found_made file p k body q e in
    let n = stated file p in
    let names = mark_bytes (get_or file p 0) (get_or file (p + 1) 0) k made.named in
    let size : p + 4 + n - (p + 4) ≡ n = omega arith in
    let part : take n (drop (p + 4) file) ≡ body = ap (λ i. take i (drop (p + 4) file)) (sym size) ∙ made.part in
    let long : length body ≡ n = ap length (sym part) ∙ length-take-le n (drop (p + 4) file) (omega (arith, length-drop (p + 4) file, made.fits)) in
    let high : get_or file (p + 2) 0 ≡ length body / 256 = omega (arith, long, bytes (p + 3)) in
    let low : get_or file (p + 3) 0 ≡ length body % 256 = omega (arith, long, bytes (p + 3)) in
    let end : p + 4 + n ≡ p + length (encoded k body) = omega (arith, long) in
    let rest : drop (p + 4) file ≡ body ++ drop (p + length (encoded k body)) file =
    sym (take-append-drop n (drop (p + 4) file)) ∙ (λ i. part i ++ drop-drop n (p + 4) file i) ∙ ap (λ m. body ++ drop m file) end in
    (sym made.place, four file p (omega (arith, made.fits)) ∙ (λ i. names.0 i ∷ names.1 i ∷ high i ∷ low i ∷ rest i))

-- a reader that stays is where it was after any number of questions
still : (file : List ℕ) (p n : ℕ) → after file p ≡ p → after_times n file p ≡ p
still file p zero e = refl
still file p (suc n) e = ap (after_times n file) e ∙ still file p n e

-- after a refusal the reader stays
pub stays : Stays
stays file p n t e =
    let same = still file p n (ap (moved p) e) in
    (same, ap (found file) same ∙ e)
