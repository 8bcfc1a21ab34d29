-- The lines of a rules file, and what adding their rules to a sheet comes to.
use Rattle.std.specs.Prelude.{◌≡◌, ℕ, ◌+◌, ◌-◌, ◌<◌, cond, ◌⊎◌, List, [], ◌∷◌, length, Ok, Err, Result, ◌==◌, slice_index, slice_index_or, take}
use Rattle.sheet.specs.Refusals.{Told, accepted, refused}
use Rattle.text.specs.Grammar.{max_depth, Says}
use Rattle.text.specs.Outcome.{Tells}
use Rattle.text.specs.Refusals.{code}
use Rattle.text.specs.declared.refusal.TextRefusal.{TextRefusal}
use Rattle.register.specs.Contents.{Content, activator, target}
use Rattle.report.specs.declared.rules.RefusedLine.{RefusedLine}

-- a byte in front of the first line
abbrev pub onto : ℕ → List (List ℕ) → List (List ℕ)
onto b [] = (b ∷ []) ∷ []
onto b (l ∷ ls) = (b ∷ l) ∷ ls

-- the lines of a text: each ends at a newline or at the text's end, and an empty rest after the last newline is none
abbrev pub lines : List ℕ → List (List ℕ)
lines [] = []
lines (b ∷ bs) = cond (b == 10) ([] ∷ lines bs) (onto b (lines bs))

-- some bytes without the newline at their end, if one is there
abbrev pub bare : List ℕ → List ℕ
bare bs = cond (slice_index bs (length bs - 1) == 10) (take (length bs - 1) bs) bs

-- adding the rule that a line writes to a sheet tells this, and leaves that
abbrev pub Takes : List ℕ → Content → Told → Content → Type 0
Takes line c told after = Tells line c.rows c.rules after.rows after.rules told

-- What adding the rules of some lines, after k lines, comes to: the first line is accepted, and then come the others; or it is
-- refused, and told by the number of its line and the refusal. With no line left, all are added.
abbrev pub Ruled : ℕ → List (List ℕ) → Content → Result (Unit {0}) RefusedLine → Content → Type 0
Ruled k [] c r last = (r ≡ Ok tt) × (last ≡ c)
Ruled k (line ∷ rest) c r last =
    ((n : ℕ) × (after : Content) × Takes line c (accepted n) after × Ruled (k + 1) rest after r last)
    ⊎ ((why : TextRefusal) × Takes line c (refused (code why)) last × (r ≡ Err (record { number = k + 1; refusal = why })))

-- The rules of a sheet are those that the lines write: there are as many, and the two formulas of the rule numbered k are those of the
-- text on line k, both counted from 0.
pub record Written (ls : List (List ℕ)) (c : Content) : Type 0 where
  pub as_many : length c.rules ≡ length ls
  pub said : (k : ℕ) → k < length ls → Says max_depth (record { activator = activator c k; target = target c k }) (slice_index_or ls k [])
