-- The noting of codes, one after another.
use Rattle.std.proofs.Common.{◌≡◌, ℕ, ◌+◌, true, List, ◌++◌, length, take, drop, Some}
use Rattle.register.specs.Calls.{noted, is_open}
use Rattle.register.specs.State.{State, with_open}
use Rattle.exports.specs.Peeking.{note_refusal}

-- The first k codes are noted, where v was the state before the first of them and s is the state now; the others decide what is refused.
pub record Sofar (v s : State) (m : ℕ) (codes : List ℕ) (k : ℕ) : Type 0 where
  pub mark : s.mark ≡ m
  pub live : is_open s.opened ≡ true
  pub holds : s ≡ with_open v (Some (noted v.opened ++ take k codes))
  pub judged : note_refusal (length (noted v.opened)) codes ≡ note_refusal (length (noted v.opened) + k) (drop k codes)
