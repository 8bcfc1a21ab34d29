-- The rules of a sheet are those that the lines write.
use Rattle.std.proofs.Common.{◌≡◌, ℕ, ◌+◌, ◌-◌, ◌<◌, ◌≤◌, Bool, true, cond, List, [], ◌∷◌, ◌++◌, length, get_or, is_ok, Ok, Result, sym, refl, ap, ◌∙◌, subst, ⊎_elim, append_assoc, append-nil, arith, length-append}
use Rattle.std.proofs.lemmas.List.{get_or_append_left, get_or-append_right}
use Rattle.std.proofs.lemmas.Bool.{cases_lt}
use Rattle.sheet.specs.Formulas.{Formula, True, False, Symbol, Not, And, Or, Next, Yest, Until, Since, Start, End}
use Rattle.sheet.specs.Refusals.{accepted}
use Rattle.sheet.specs.Sheets.{formula}
use Rattle.sheet.specs.declared.refusal.Refusal.{Refusal}
use Rattle.sheet.specs.declared.row.Row.{Row}
use Rattle.sheet.specs.declared.row.Rule.{Rule}
use Rattle.text.specs.Adding.{size, rows_for, rule_rows, rule_over, adding_answer}
use Rattle.text.specs.Grammar.{max_depth, RuleFormulas, Says}
use Rattle.text.proofs.Means.{means}
use Rattle.register.specs.Contents.{Content, rule_at, activator, target}
use Rattle.report.specs.Output.{empty_sheet}
use Rattle.report.specs.Rules.{Takes, Ruled, Written}

-- A formula has at least one row.
size_some : (a : Formula) → 0 < size a
size_some True = omega arith
size_some False = omega arith
size_some Start = omega arith
size_some End = omega arith
size_some (Symbol n) = omega arith
size_some (Not a) = omega arith
size_some (Next a) = omega arith
size_some (Yest a) = omega arith
size_some (And a b) = omega arith
size_some (Or a b) = omega arith
size_some (Until a b) = omega arith
size_some (Since a b) = omega arith

-- rows of operands, and one more
after_one : (xs : List Row) (r : Row) (m : ℕ) → length xs ≡ m → length (xs ++ (r ∷ [])) ≡ m + 1
after_one xs r m e = omega (arith, length-append xs (r ∷ []), e)

after_two : (xs ys : List Row) (r : Row) (m n : ℕ) → length xs ≡ m → length ys ≡ n → length ((xs ++ ys) ++ (r ∷ [])) ≡ m + n + 1
after_two xs ys r m n e f = omega (arith, length-append (xs ++ ys) (r ∷ []), length-append xs ys, e, f)

-- A formula has as many rows as its size says.
rows_many : (a : Formula) (n : ℕ) → length (rows_for a n) ≡ size a
rows_many True n = refl
rows_many False n = refl
rows_many Start n = refl
rows_many End n = refl
rows_many (Symbol s) n = refl
rows_many (Not a) n = after_one (rows_for a n) _ (size a) (rows_many a n)
rows_many (Next a) n = after_one (rows_for a n) _ (size a) (rows_many a n)
rows_many (Yest a) n = after_one (rows_for a n) _ (size a) (rows_many a n)
rows_many (And a b) n = after_two (rows_for a n) (rows_for b (n + size a)) _ (size a) (size b) (rows_many a n) (rows_many b (n + size a))
rows_many (Or a b) n = after_two (rows_for a n) (rows_for b (n + size a)) _ (size a) (size b) (rows_many a n) (rows_many b (n + size a))
rows_many (Until a b) n = after_two (rows_for a n) (rows_for b (n + size a)) _ (size a) (size b) (rows_many a n) (rows_many b (n + size a))
rows_many (Since a b) n = after_two (rows_for a n) (rows_for b (n + size a)) _ (size a) (size b) (rows_many a n) (rows_many b (n + size a))

-- what is known of a sheet after some lines
record Inv (past : List (List ℕ)) (c : Content) : Type 0 where
  as_many : length c.rules ≡ length past
  said : (k : ℕ) → k < length past → Says max_depth (record { activator = activator c k; target = target c k }) (get_or past k [])
  first : (k : ℕ) → k < length past → (rule_at c k).activator < length c.rows
  second : (k : ℕ) → k < length past → (rule_at c k).target < length c.rows

-- the sheet with one more rule
abbrev with_rule : Content → RuleFormulas → Content
with_rule c r = record { rows = c.rows ++ rule_rows r (length c.rows); rules = c.rules ++ (rule_over r (length c.rows) ∷ []) }

-- the same formulas, and the same text
says_as : (r : RuleFormulas) (a t : Formula) (bs cs : List ℕ) → a ≡ r.activator → t ≡ r.target → cs ≡ bs → Says max_depth r bs
    → Says max_depth (record { activator = a; target = t }) cs
says_as r a t bs cs ea et ec h =
    let same : r ≡ record { activator = a; target = t } = λ i. record { activator = sym ea i; target = sym et i } in
    subst (λ (x : List ℕ). Says max_depth (record { activator = a; target = t }) x) (sym ec) (subst (λ (q : RuleFormulas). Says max_depth q bs) same h)

-- one at the end
last_at : {X : Type 0} (xs : List X) (x d : X) (n k : ℕ) → length xs ≡ n → n ≤ k → k < n + 1 → get_or (xs ++ (x ∷ [])) k d ≡ x
last_at xs x d n k e le lt = get_or-append_right xs (x ∷ []) n k d e le ∙ ap (λ (i : ℕ). get_or (x ∷ []) i d) {x = k - n} {y = 0} (omega arith)

module _ (past : List (List ℕ)) (line : List ℕ) (c : Content) (r : RuleFormulas) (h : Inv past c) (says : Says max_depth r line) where
  -- the rule at k, and its text, are old or new
  old-rule : (k : ℕ) → k < length past → rule_at (with_rule c r) k ≡ rule_at c k
  old-rule k lt = get_or_append_left c.rules (rule_over r (length c.rows) ∷ []) (record { activator = 0; target = 0 }) k (omega (arith, h.as_many))

  new-rule : (k : ℕ) → length past ≤ k → k < length past + 1 → rule_at (with_rule c r) k ≡ rule_over r (length c.rows)
  new-rule k le lt = last_at c.rules (rule_over r (length c.rows)) (record { activator = 0; target = 0 }) (length past) k h.as_many le lt

  longer : length (with_rule c r).rows ≡ length c.rows + size r.activator + size r.target
  longer = omega (
    arith,
    length-append c.rows (rule_rows r (length c.rows)),
    length-append (rows_for r.activator (length c.rows)) (rows_for r.target (length c.rows + size r.activator)),
    rows_many r.activator (length c.rows),
    rows_many r.target (length c.rows + size r.activator),
  )

  count : length (past ++ (line ∷ [])) ≡ length past + 1
  count = length-append past (line ∷ [])

  said-now : (k : ℕ) → k < length (past ++ (line ∷ []))
      → Says max_depth (record { activator = activator (with_rule c r) k; target = target (with_rule c r) k }) (get_or (past ++ (line ∷ [])) k [])
  said-now k lt =
      let m = means c.rows r in
      ⊎_elim
      (λ old. says_as (record { activator = activator c k; target = target c k }) _ _ (get_or past k []) _
      (ap (λ (q : Rule). formula (with_rule c r).rows q.activator) (old-rule k old) ∙ m.before (rule_at c k).activator (h.first k old))
      (ap (λ (q : Rule). formula (with_rule c r).rows q.target) (old-rule k old) ∙ m.before (rule_at c k).target (h.second k old))
      (get_or_append_left past (line ∷ []) [] k old) (h.said k old))
      (λ new. says_as r _ _ line _
      (ap (λ (q : Rule). formula (with_rule c r).rows q.activator) (new-rule k new (omega (arith, count))) ∙ m.activator)
      (ap (λ (q : Rule). formula (with_rule c r).rows q.target) (new-rule k new (omega (arith, count))) ∙ m.target)
      (last_at past line [] (length past) k refl new (omega (arith, count))) says)
      (cases_lt k (length past))

  first-now : (k : ℕ) → k < length (past ++ (line ∷ [])) → (rule_at (with_rule c r) k).activator < length (with_rule c r).rows
  first-now k lt = ⊎_elim
      (λ old. omega (arith, ap (λ (q : Rule). q.activator) (old-rule k old), h.first k old, longer))
      (λ new. omega (arith, ap (λ (q : Rule). q.activator) (new-rule k new (omega (arith, count))), longer, size_some r.activator, size_some r.target))
      (cases_lt k (length past))

  second-now : (k : ℕ) → k < length (past ++ (line ∷ [])) → (rule_at (with_rule c r) k).target < length (with_rule c r).rows
  second-now k lt = ⊎_elim
      (λ old. omega (arith, ap (λ (q : Rule). q.target) (old-rule k old), h.second k old, longer))
      (λ new. omega (arith, ap (λ (q : Rule). q.target) (new-rule k new (omega (arith, count))), longer, size_some r.activator, size_some r.target))
      (cases_lt k (length past))

  step : Inv (past ++ (line ∷ [])) (with_rule c r)
  step = record {
    as_many = omega (arith, length-append c.rules (rule_over r (length c.rows) ∷ []), h.as_many, count);
    said = said-now;
    first = first-now;
    second = second-now;
  }

-- a line that is accepted
accepts : (past : List (List ℕ)) (line : List ℕ) (c after : Content) (n : ℕ) → Inv past c → Takes line c (accepted n) after → Inv (past ++ (line ∷ [])) after
accepts past line c after n h t =
    let ok : is_ok (adding_answer t.rule c.rows c.rules) ≡ true = ap (λ (x : Result ℕ Refusal). is_ok x) (sym t.answers) in
    let rows : after.rows ≡ (with_rule c t.rule).rows
    = t.leaves_rows ∙ ap (λ (b : Bool). cond b (c.rows ++ rule_rows t.rule (length c.rows)) c.rows) ok in
    let rules : after.rules ≡ (with_rule c t.rule).rules
    = t.leaves_rules ∙ ap (λ (b : Bool). cond b (c.rules ++ (rule_over t.rule (length c.rows) ∷ [])) c.rules) ok in
    let same : with_rule c t.rule ≡ after = λ i. record { rows = sym rows i; rules = sym rules i } in
    subst (λ (x : Content). Inv (past ++ (line ∷ [])) x) same (step past line c t.rule h t.says)

-- all lines
all_accepted : (ls past : List (List ℕ)) (k : ℕ) (c last : Content) → Inv past c → Ruled k ls c (Ok tt) last → Inv (past ++ ls) last
all_accepted [] past k c last h d =
    subst (λ (x : Content). Inv (past ++ []) x) (sym d.1) (subst (λ (x : List (List ℕ)). Inv x c) (sym (append-nil past)) h)
all_accepted (l ∷ ls) past k c last h d =
    ⊎_elim
    (λ x. subst (λ (y : List (List ℕ)). Inv y last) (append_assoc past (l ∷ []) ls)
    (all_accepted ls (past ++ (l ∷ [])) (k + 1) x.1 last (accepts past l c x.1 x.0 h x.2) x.3))
    (λ x. let w = x.2 in let z : ◌≡◌ {A = ℕ} 0 1 = cc in absurd (omega arith))
    d

-- nothing yet
none : Inv [] empty_sheet
none = record { as_many = refl; said = λ k lt. absurd (omega arith); first = λ k lt. absurd (omega arith); second = λ k lt. absurd (omega arith) }

-- Where every line is accepted, the sheet's rules are what the lines write.
pub written : (ls : List (List ℕ)) (k : ℕ) (c : Content) → Ruled k ls empty_sheet (Ok tt) c → Written ls c
written ls k c d = let i = all_accepted ls [] k empty_sheet c none d in record { as_many = i.as_many; said = i.said }
