-- A trace looked through from its first instant. Assumes nothing.
use Rattle.std.proofs.Common.{◌≡◌, ℕ, ◌+◌, ◌-◌, ◌<◌, ◌≤◌, List, ◌∷◌, length, drop, Some, None, sym, ap, ◌∙◌, ⊎_elim, arith, Ok, Err}
use Rattle.std.proofs.lemmas.Bool.{cases_lt}
use Rattle.std.proofs.lemmas.List.{drop_more, drop_all}
use Rattle.trace.specs.declared.reading.Event.{Event}
use Rattle.trace.specs.declared.reading.Fault.{Fault}
use Rattle.trace.specs.Readings.{Reading, reading_at, outside}
use Rattle.trace.specs.Unreadable.{first_unreadable, ReadableBefore}
use Rattle.trace.proofs.Answers.{answer_in}

-- what is left at an instant begins with its reading
pub left_at : (rs : List Reading) (i : ℕ) (x : Reading) → 1 ≤ i → i ≤ length rs → x ≡ reading_at rs i → drop (i - 1) rs ≡ x ∷ drop (i + 1 - 1) rs
left_at rs i x h k e =
    let n : i - 1 + 1 ≡ i + 1 - 1 = omega arith in
    drop_more rs (i - 1) (outside i) (omega arith) ∙ ap (λ y. y ∷ drop (i - 1 + 1) rs) (sym (e ∙ answer_in rs i h)) ∙ ap (λ m. x ∷ drop m rs) n

-- an event is passed over
pub past_event : (rs : List Reading) (i : ℕ) (event : Event) → 1 ≤ i → i ≤ length rs → Ok event ≡ reading_at rs i → first_unreadable i (drop (i - 1) rs) ≡ first_unreadable (i + 1) (drop (i + 1 - 1) rs)
past_event rs i event h k e = ap (first_unreadable i) (left_at rs i (Ok event) h k e)

-- a fault is found
pub at_fault : (rs : List Reading) (i : ℕ) (f : Fault) → 1 ≤ i → i ≤ length rs → Err f ≡ reading_at rs i → first_unreadable i (drop (i - 1) rs) ≡ Some (record { instant = i; fault = f })
at_fault rs i f h k e = ap (first_unreadable i) (left_at rs i (Err f) h k e)

-- past the last instant nothing is found
pub past_all : (rs : List Reading) (i : ℕ) → length rs < i → first_unreadable i (drop (i - 1) rs) ≡ None
past_all rs i h = ap (first_unreadable i) (drop_all (i - 1) rs (omega arith))

-- one readable instant more
pub one_more : (rs : List Reading) (i : ℕ) (e : Event) → reading_at rs i ≡ Ok e → ReadableBefore rs i → ReadableBefore rs (i + 1)
one_more rs i e at before = λ k l h.
    ⊎_elim
    (λ (m : k < i). before k l m)
    (λ (m : i ≤ k). let same : i ≡ k = omega arith in (e, ap (reading_at rs) (sym same) ∙ at))
    (cases_lt k i)
