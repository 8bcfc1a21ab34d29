-- What the reply of a register says of the refusal behind it.
use Rattle.std.proofs.Common.{◌≡◌, ℕ, true, false, not, List, Some, None, Option, sym, refl, ap, eq-eqb}
use Rattle.std.proofs.lemmas.Bool.{true≢false}
use Rattle.sheet.specs.Refusals.{Code}
use Rattle.register.specs.Calls.{Answer, refused, unless, wrong, is_open}
use Rattle.register.specs.Refusals.{code}
use Rattle.register.specs.declared.refusal.Refusal.{Refusal}

-- an answer that is no refusal
abbrev pub Plain : Answer → Type 0
Plain y = (k : Code) → y ≡ refused k → ⊥

-- A plain answer is what is granted, where nothing refuses.
pub granted : (o : Option Refusal) (a y : Answer) → Plain a → a ≡ unless o (λ why. refused (code why)) y → (o ≡ None) × (a ≡ y)
granted (Some why) a y p e = absurd (p (code why) e)
granted None a y p e = (refl, e)

-- A refusal that is answered is the one that there is.
pub told : (o : Option Refusal) (k : Code) (y : Answer) → Plain y → refused k ≡ unless o (λ why. refused (code why)) y
    → (w : Refusal) × (o ≡ Some w) × (k ≡ code w)
told (Some why) k y p e = let same : k ≡ code why = cc in (why, refl, same)
told None k y p e = absurd (p k (sym e))

-- The slip with a register's mark is not wrong while a trace is open.
pub right : (mark s : ℕ) (o : Option (List ℕ)) → s ≡ mark → is_open o ≡ true → wrong mark s o ≡ false
right mark s None e h = absurd (true≢false (sym h))
right mark s (Some codes) e h = ap not (eq-eqb s mark e)
