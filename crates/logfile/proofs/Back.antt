-- A record that stands in a file is read back. Assumes nothing.
use Rattle.std.proofs.Common.{◌≡◌, ℕ, ◌+◌, ◌-◌, ◌/◌, ◌%◌, ◌≤◌, true, false, cond, eqb, leb, List, [], ◌∷◌, ◌++◌, length, get_or, take, drop, Some, sym, refl, ap, ◌∙◌, append_assoc, add-zero, arith, length-append, ne_eqb, le-leb}
use Rattle.std.specs.List.{between}
use Rattle.std.proofs.lemmas.List.{get_or-append-add, take_at, drop_at}
use Rattle.logfile.specs.declared.record.Kind.{Kind}
use Rattle.logfile.specs.declared.record.Kind.TheVariants.{Codes, Snapshots, Runs}
use Rattle.logfile.specs.Log.{at_end, refused, got, marked, stated, sized, found, moved, after}
use Rattle.logfile.specs.Refusals.{bad_record}
use Rattle.logfile.specs.Laws.{mark, encoded, ReadsBack}

-- a record stands at p where the mark names a kind and the stated body fits
pub found_at : (file : List ℕ) (p n : ℕ) (k : Kind) → p + 4 + n ≤ length file → marked (get_or file p 0) (get_or file (p + 1) 0) ≡ Some k → stated file p ≡ n
    → found file p ≡ got k (between (p + 4) (p + 4 + n) file) p
found_at file p n k fits mark-is long =
    let apart : eqb p (length file) ≡ false = ne_eqb _ _ (λ e. omega arith) in
    let head : leb (p + 4) (length file) ≡ true = le-leb _ _ (omega arith) in
    let whole : leb (p + 4 + n) (length file) ≡ true = le-leb _ _ fits in
    ap (λ v. cond v at_end (cond (leb (p + 4) (length file)) (sized file p (stated file p) (marked (get_or file p 0) (get_or file (p + 1) 0))) (refused (bad_record p)))) apart
    ∙ ap (λ v. cond v (sized file p (stated file p) (marked (get_or file p 0) (get_or file (p + 1) 0))) (refused (bad_record p))) head
    ∙ (λ i. sized file p (long i) (mark-is i))
    ∙ ap (λ v. cond v (got k (between (p + 4) (p + 4 + n) file) p) (refused (bad_record p))) whole

-- a record that stands at p is what a reader there answers, and the reader is then right after it
pub handed_out : (file : List ℕ) (p n : ℕ) (k : Kind) (body : List ℕ) → p + 4 + n ≤ length file → marked (get_or file p 0) (get_or file (p + 1) 0) ≡ Some k → stated file p ≡ n
    → body ≡ between (p + 4) (p + 4 + n) file → length body ≡ n → (got k body p ≡ found file p) × (p + 4 + n ≡ after file p)
handed_out file p n k body fits mark-is long part size =
    let same : got k body p ≡ found file p = ap (λ (bs : List ℕ). got k bs p) part ∙ sym (found_at file p n k fits mark-is long) in
    (same, ap (λ (m : ℕ). p + 4 + m) (sym size) ∙ ap (moved p) same)

-- a kind's mark names it
named : (k : Kind) → marked 90 (mark k) ≡ Some k
named Codes = refl
named Snapshots = refl
named Runs = refl

-- a record that stands in a file is read back, and the reader is then right after it
pub reads_back : ReadsBack
reads_back before later body k short =
    let p = length before in
    let n = length body in
    let tail = encoded k body ++ later in
    let file = before ++ tail in
    let head : List ℕ = 90 ∷ mark k ∷ n / 256 ∷ n % 256 ∷ [] in
    let long : length file ≡ p + (4 + (n + length later)) = omega (arith, length-append before tail, length-append body later) in
    let first : get_or file p 0 ≡ 90 = ap (λ i. get_or file i 0) (sym (add-zero p)) ∙ get_or-append-add before tail 0 0 in
    let mark-is : marked (get_or file p 0) (get_or file (p + 1) 0) ≡ Some k = (λ i. marked (first i) (get_or-append-add before tail 1 0 i)) ∙ named k in
    let size : stated file p ≡ n = omega (arith, get_or-append-add before tail 2 0, get_or-append-add before tail 3 0) in
    let split : file ≡ (before ++ head) ++ (body ++ later) = sym (append_assoc before head (body ++ later)) in
    let rest : drop (p + 4) file ≡ body ++ later = ap (drop (p + 4)) split ∙ drop_at (before ++ head) (body ++ later) (p + 4) (length-append before head) in
    let part : between (p + 4) (p + 4 + n) file ≡ body = (λ i. take (p + 4 + n - (p + 4)) (rest i)) ∙ take_at body later (p + 4 + n - (p + 4)) (omega arith) in
    let value : found file p ≡ got k body p = found_at file p n k (omega (arith, long)) mark-is size ∙ ap (λ b. got k b p) part in
    (value, ap (moved p) value ∙ omega arith)
