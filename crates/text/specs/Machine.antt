-- What a reader that goes from byte to byte still waits for. No public contract cites this file. Assumes nothing.
use Rattle.std.specs.Prelude.{◌≡◌, ℕ, zero, suc, ◌+◌, ◌<◌, ◌≤◌, Bool, true, false, cond, ◌&&◌, List, [], ◌∷◌, ◌++◌, length, drop, Some, None, codes, Option, ◌==◌, nat_le}
use Rattle.sheet.specs.declared.row.Rule.{Rule}
use Rattle.text.specs.Grammar.{Says}
use Rattle.text.specs.Trees.{Tree, leaf, one, two, meant, leaf_row, one_row, two_row, leaf_text, unary_text, binary_text, Small, TreeWithin}
use Rattle.text.specs.Drafts.{Drafted, put_row}
use Rattle.text.specs.declared.term.Leaf.{Leaf}
use Rattle.text.specs.declared.term.Unary.{Unary}
use Rattle.text.specs.declared.refusal.Misreading.{Misreading}
use Rattle.text.specs.declared.refusal.Misreading.TheVariants.{BadText, TooDeep}

-- what a reader waits for
pub data Need : Type 0 where
  -- this byte
  byte : ℕ → Need
  -- a formula at most so deep
  form : ℕ → Need
  -- what follows an `s`
  after_s : Need
  -- a second digit, or none
  digit : Need
  -- what follows the bracket of a group whose parts are at most so deep
  inner : ℕ → Need
  -- what follows the `n` of such a group
  after_n : ℕ → Need
  -- and, or, until, since
  joint : Need

-- these bytes, and then k
abbrev pub bytes : List ℕ → List Need → List Need
bytes [] k = k
bytes (b ∷ bs) k = byte b ∷ bytes bs k

-- a byte is a decimal digit
abbrev pub is_digit : ℕ → Bool
is_digit b = nat_le 48 b && nat_le b 57

-- after the byte b where what follows an `s` was waited for, or none where b cannot come
abbrev pub on_s : List Need → ℕ → Option (List Need)
on_s k b = cond (b == 116) (Some (bytes (codes "art") k)) (cond (b == 48) (Some k) (cond (is_digit b) (Some (digit ∷ k)) None))

-- after a bracket where a formula was waited for
abbrev pub on_open : ℕ → List Need → Option (List Need)
on_open zero k = None
on_open (suc n) k = Some (inner n ∷ k)

-- after the byte b where a formula was waited for
abbrev pub on_form : ℕ → List Need → ℕ → Option (List Need)
on_form n k b = cond (b == 40) (on_open n k) (cond (b == 116) (Some (bytes (codes "rue") k)) (cond (b == 102) (Some (bytes (codes "alse") k)) (cond (b == 101) (Some (bytes (codes "nd") k)) (cond (b == 115) (Some (after_s ∷ k)) None))))

-- the second half of a group of two
abbrev pub pair : ℕ → List Need → List Need
pair n k = byte 32 ∷ joint ∷ form n ∷ byte 41 ∷ k

-- the rest of a group of one
abbrev pub single : ℕ → List Need → List Need
single n k = form n ∷ byte 41 ∷ k

-- after the byte b where the inside of a group was waited for
abbrev pub on_inner : ℕ → List Need → ℕ → Option (List Need)
on_inner n k b = cond (b == 110) (Some (after_n n ∷ k)) (cond (b == 121) (Some (bytes (codes "est ") (single n k))) (on_form n (pair n k) b))

-- after the byte b behind the `n` of a group
abbrev pub on_n : ℕ → List Need → ℕ → Option (List Need)
on_n n k b = cond (b == 111) (Some (bytes (codes "t ") (single n k))) (cond (b == 101) (Some (bytes (codes "xt ") (single n k))) None)

-- after the byte b where the word of a group of two was waited for
abbrev pub on_joint : List Need → ℕ → Option (List Need)
on_joint k b = cond (b == 97) (Some (bytes (codes "nd ") k)) (cond (b == 111) (Some (bytes (codes "r ") k)) (cond (b == 117) (Some (bytes (codes "ntil ") k)) (cond (b == 115) (Some (bytes (codes "ince ") k)) None)))

-- what is waited for after the byte b, or none where b cannot come
abbrev pub step : List Need → ℕ → Option (List Need)
step [] b = None
step (byte n ∷ k) b = cond (b == n) (Some k) None
step (form n ∷ k) b = on_form n k b
step (after_s ∷ k) b = on_s k b
step (digit ∷ k) b = cond (is_digit b) (Some k) (step k b)
step (inner n ∷ k) b = on_inner n k b
step (after_n n ∷ k) b = on_n n k b
step (joint ∷ k) b = on_joint k b

-- the text may end here
abbrev pub may_end : List Need → Bool
may_end [] = true
may_end (byte n ∷ k) = false
may_end (form n ∷ k) = false
may_end (after_s ∷ k) = false
may_end (digit ∷ k) = may_end k
may_end (inner n ∷ k) = false
may_end (after_n n ∷ k) = false
may_end (joint ∷ k) = false

-- no digit comes next
abbrev pub Plain : List ℕ → Type 0
Plain [] = Unit {0}
Plain (b ∷ bs) = is_digit b ≡ false

-- another byte than c comes next, or none
abbrev pub Off : ℕ → List ℕ → Type 0
Off c [] = Unit {0}
Off c (b ∷ bs) = b ≡ c → ⊥

-- the byte b stands at place p
abbrev pub Comes : List ℕ → ℕ → ℕ → Type 0
Comes s p b = (p < length s) × (drop p s ≡ b ∷ drop (p + 1) s)

-- the word w stands at place p, and ends at q
abbrev pub Holds : List ℕ → ℕ → List ℕ → ℕ → Type 0
Holds s p w q = (q ≤ length s) × (drop p s ≡ w ++ drop q s)

-- reading on from one place leads to another
pub data Goes (k' : List Need) (bs' : List ℕ) : List Need → List ℕ → Type 0 where
  stay : Goes k' bs' k' bs'
  more : {k m : List Need} {b : ℕ} {bs : List ℕ} → step k b ≡ Some m → Goes k' bs' m bs → Goes k' bs' k (b ∷ bs)
  skip : {k : List Need} {bs : List ℕ} → Plain bs → Goes k' bs' k bs → Goes k' bs' (digit ∷ k) bs
  enter : {k : List Need} {n : ℕ} {bs : List ℕ} → Off 110 bs → Off 121 bs → Goes k' bs' (form n ∷ pair n k) bs → Goes k' bs' (inner n ∷ k) bs

-- nothing that is waited for comes next
abbrev pub Halts : List Need → List ℕ → Type 0
Halts k [] = may_end k ≡ false
Halts k (b ∷ bs) = step k b ≡ None

-- from place p on, where pre is waited for with any further depth j, up to place q, where post is
abbrev pub Passes : List ℕ → (ℕ → List Need → List Need) → (ℕ → List Need → List Need) → ℕ → ℕ → Type 0
Passes s pre post p q = (j : ℕ) (k : List Need) → Goes (post j k) (drop q s) (pre j k) (drop p s)

-- reading from place p on, where pre is waited for with any further depth j, stops with this refusal
abbrev pub Stops : List ℕ → (ℕ → List Need → List Need) → ℕ → Misreading → Type 0
Stops s pre p (BadText q) = (q ≤ length s) × ((j : ℕ) (k : List Need) → (m : List Need) × Goes m (drop q s) (pre j k) (drop p s) × Halts m (drop q s))
Stops s pre p (TooDeep q) = (q < length s) × (drop q s ≡ 40 ∷ drop (q + 1) s) × ((j : ℕ) (k : List Need) → (m : List Need) × Goes (form j ∷ m) (drop q s) (pre j k) (drop p s))

-- the word w does not stand at place p
abbrev pub Misses : List ℕ → ℕ → List ℕ → Misreading → Type 0
Misses s p w (BadText q) = (q ≤ length s) × ((u : List ℕ) × (c : ℕ) × (v : List ℕ) × (w ≡ u ++ c ∷ v) × (drop p s ≡ u ++ drop q s) × Off c (drop q s))
Misses s p w (TooDeep q) = ⊥

-- a formula's bytes, and after them r
abbrev pub before : Tree → List ℕ → List ℕ
before (leaf l) r = leaf_text l ++ r
before (one u f) r = 40 ∷ (unary_text u ++ (32 ∷ before f (41 ∷ r)))
before (two f b g) r = 40 ∷ before f (32 ∷ (binary_text b ++ (32 ∷ before g (41 ∷ r))))

-- the rows of a formula on a draft, operands first and left before right, and the number of its own
abbrev pub plant : Tree → Drafted → Drafted × ℕ
plant (leaf l) d = put_row d (leaf_row l)
plant (one u f) d = put_row (plant f d).0 (one_row u (plant f d).1)
plant (two f o g) d = put_row (plant g (plant f d).0).0 (two_row o (plant f d).1 (plant g (plant f d).0).1)

-- the text is a rule's, at most d deep, whose rows were put onto a draft; r is the rule over those rows
pub record Plants (d : ℕ) (bs : List ℕ) (was now : Drafted) (r : Rule) : Type 0 where
  pub activator : Tree
  pub target : Tree
  pub says : Says d (record { activator = meant activator; target = meant target }) bs
  pub rows : now ≡ (plant target (plant activator was).0).0
  pub first : r.activator ≡ (plant activator was).1
  pub second : r.target ≡ (plant target (plant activator was).0).1

-- the bytes bs begin with a formula at most n deep, which ends at q, and whose rows were added
pub record Stands (s bs : List ℕ) (pre : ℕ → List Need → List Need) (p n q at : ℕ) (was now : Drafted) : Type 0 where
  pub inside : q ≤ length s
  pub tree : Tree
  pub within : TreeWithin n tree
  pub text : bs ≡ before tree (drop q s)
  pub rows : now ≡ (plant tree was).0
  pub last : at ≡ (plant tree was).1
  pub goes : Passes s pre (λ j k. k) p q

-- the bytes bs begin with the leaf l, which ends at q
pub record Found (s bs : List ℕ) (pre : ℕ → List Need → List Need) (p : ℕ) (l : Leaf) (q : ℕ) : Type 0 where
  pub inside : q ≤ length s
  pub small : Small l
  pub text : bs ≡ leaf_text l ++ drop q s
  pub goes : Passes s pre (λ j k. k) p q

-- the bytes bs begin with w, which ends at q, and those from p to q lead from pre to post
pub record Spells (s bs w : List ℕ) (pre post : ℕ → List Need → List Need) (p q : ℕ) : Type 0 where
  pub inside : q ≤ length s
  pub text : bs ≡ w ++ drop q s
  pub goes : Passes s pre post p q

-- what a group's head says: a word for one operand, or that none of them stands there
abbrev pub Headed : List ℕ → ℕ → ℕ → Option (Unary × ℕ) → Type 0
Headed s n p None = Off 110 (drop p s) × Off 121 (drop p s)
Headed s n p (Some o) = Spells s (drop p s) (unary_text o.0 ++ 32 ∷ []) (λ j k. inner (n + j) ∷ k) (λ j k. single (n + j) k) p o.1
