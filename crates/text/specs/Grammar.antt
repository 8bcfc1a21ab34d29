-- Rule texts: the bytes that write a rule, which bytes begin a rule text, and why others do not. Assumes nothing.
use Rattle.std.specs.Prelude.{◌≡◌, ℕ, zero, suc, ◌+◌, ◌-◌, ◌/◌, ◌%◌, ◌<◌, ◌≤◌, cond, List, [], ◌∷◌, ◌++◌, length, take, codes, ◌==◌, nat_lt, slice_index_or}
pub use Rattle.text.specs.Rules.{RuleFormulas}
use Rattle.sheet.specs.Formulas.{Formula, True, False, Symbol, Not, And, Or, Next, Yest, Until, Since, Start, End}
use Rattle.text.specs.declared.refusal.Misreading.{Misreading}
use Rattle.text.specs.declared.refusal.Misreading.TheVariants.{BadText, TooDeep}

-- groups stand at most this deep inside one another
abbrev pub max_depth : ℕ
max_depth = 16

-- a number below 100 in decimal digits, without leading zeros
abbrev pub decimal : ℕ → List ℕ
decimal n = cond (nat_lt n 10) ((48 + n) ∷ []) ((48 + n / 10) ∷ (48 + n % 10) ∷ [])

-- a group of one operand; `(` is the byte 40, `)` is 41, a space is 32
abbrev pub group_one : List ℕ → List ℕ → List ℕ
group_one word a = 40 ∷ (word ++ (32 ∷ (a ++ 41 ∷ [])))

-- a group of two operands
abbrev pub group_two : List ℕ → List ℕ → List ℕ → List ℕ
group_two a word b = 40 ∷ (a ++ (32 ∷ (word ++ (32 ∷ (b ++ 41 ∷ [])))))

-- the bytes that write a formula; `s` is the byte 115
abbrev pub written : Formula → List ℕ
written True = codes "true"
written False = codes "false"
written Start = codes "start"
written End = codes "end"
written (Symbol n) = 115 ∷ decimal n
written (Not a) = group_one (codes "not") (written a)
written (Next a) = group_one (codes "next") (written a)
written (Yest a) = group_one (codes "yest") (written a)
written (And a b) = group_two (written a) (codes "and") (written b)
written (Or a b) = group_two (written a) (codes "or") (written b)
written (Until a b) = group_two (written a) (codes "until") (written b)
written (Since a b) = group_two (written a) (codes "since") (written b)

-- a group at most d deep, whose operands are at most one less deep
abbrev pub Group : ℕ → (ℕ → Type 0) → Type 0
Group zero P = ⊥
Group (suc d) P = P d

-- groups stand at most d deep inside one another, and each number is at most 99
abbrev pub Within : ℕ → Formula → Type 0
Within d True = Unit {0}
Within d False = Unit {0}
Within d Start = Unit {0}
Within d End = Unit {0}
Within d (Symbol n) = n < 100
Within d (Not a) = Group d (λ e. Within e a)
Within d (Next a) = Group d (λ e. Within e a)
Within d (Yest a) = Group d (λ e. Within e a)
Within d (And a b) = Group d (λ e. Within e a × Within e b)
Within d (Or a b) = Group d (λ e. Within e a × Within e b)
Within d (Until a b) = Group d (λ e. Within e a × Within e b)
Within d (Since a b) = Group d (λ e. Within e a × Within e b)

-- the bytes that write a rule
abbrev pub rule_text : RuleFormulas → List ℕ
rule_text r = written r.activator ++ (codes " => " ++ written r.target)

-- the bytes are the text of the rule r, at most d deep
pub record Says (d : ℕ) (r : RuleFormulas) (bs : List ℕ) : Type 0 where
  pub is : rule_text r ≡ bs
  pub left : Within d r.activator
  pub right : Within d r.target

-- some rule text, at most d deep, begins with these bytes
pub record Viable (d : ℕ) (bs : List ℕ) : Type 0 where
  pub rule : RuleFormulas
  pub rest : List ℕ
  pub says : Says d rule (bs ++ rest)

-- how many groups are open after some bytes, where n were open before them
abbrev pub opened : ℕ → List ℕ → ℕ
opened n [] = n
opened n (b ∷ bs) = opened (cond (b == 40) (suc n) (cond (b == 41) (n - 1) n)) bs

-- no rule text, however deep, can follow after the byte at p, the first such; or the text stops at p, where no rule text ends
pub record IsBadText (bs : List ℕ) (p : ℕ) : Type 0 where
  pub inside : p ≤ length bs
  pub depth : ℕ
  pub before : Viable depth (take p bs)
  pub with_it : (e : ℕ) → p < length bs → Viable e (take (p + 1) bs) → ⊥
  pub at_the_end : (e : ℕ) (r : RuleFormulas) → p ≡ length bs → Says e r bs → ⊥

-- the byte at p is the bracket that opens level d + 1, and deeper rule texts can follow after it
pub record IsTooDeep (d : ℕ) (bs : List ℕ) (p : ℕ) : Type 0 where
  pub inside : p < length bs
  pub bracket : slice_index_or bs p 0 ≡ 40
  pub level : opened 0 (take p bs) ≡ d
  pub before : Viable d (take p bs)
  pub with_it : Viable d (take (p + 1) bs) → ⊥
  pub deeper : Viable (suc d) (take (p + 1) bs)

-- why bytes are no rule text at most d deep; a bad text is told where all before it stays within the depth
abbrev pub Refused : ℕ → List ℕ → Misreading → Type 0
Refused d bs (BadText p) = IsBadText bs p × Viable d (take p bs)
Refused d bs (TooDeep p) = IsTooDeep d bs p
