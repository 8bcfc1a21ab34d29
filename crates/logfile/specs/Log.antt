-- What a log file holds, place by place. Assumes nothing.
use Rattle.std.specs.Prelude.{◌≡◌, ℕ, zero, suc, ◌+◌, ◌*◌, cond, List, [], ◌∷◌, length, Some, None, Ok, Err, Option, Result, MatchResult, ◌==◌, nat_le, slice_index}
use Rattle.std.specs.List.{between}
use Rattle.logfile.specs.declared.record.Kind.{Kind}
use Rattle.logfile.specs.declared.record.Kind.TheVariants.{Codes, Snapshots, Runs}
use Rattle.logfile.specs.declared.record.UnknownKind.{UnknownKind}
use Rattle.logfile.specs.declared.record.Record.{Record}
use Rattle.logfile.specs.declared.record.BadRecord.{BadRecord}
use Rattle.logfile.specs.Refusals.{Telling, bad_record, telling}

-- the answer of one reading: the file's end, a refusal, or a record's kind, its body's bytes and its place
pub data Found : Type 0 where
  at_end : Found
  refused : Telling → Found
  got : Kind → List ℕ → ℕ → Found

-- the kind that a mark names: 90 (5A in hexadecimal), and then 1, 2 or 3
abbrev pub marked : ℕ → ℕ → Option Kind
marked a b = cond (a == 90) (cond (b == 1) (Some Codes) (cond (b == 2) (Some Snapshots) (cond (b == 3) (Some Runs) None))) None

-- a byte as a kind: the one that it names as the second byte of a mark, or an error with the byte itself where it names none
abbrev pub Names : ℕ → Result Kind UnknownKind → Type 0
Names b r = MatchResult r (λ k. marked 90 b ≡ Some k) (λ e. (marked 90 b ≡ None) × (e.0 ≡ b))

-- the body length that the record at p states, high byte first
abbrev pub stated : List ℕ → ℕ → ℕ
stated file p = 256 * slice_index file (p + 2) + slice_index file (p + 3)

-- a record of kind k, if any, whose body is the n bytes from p + 4 on
abbrev pub sized : List ℕ → ℕ → ℕ → Option Kind → Found
sized file p n None = refused (bad_record p)
sized file p n (Some k) = cond (nat_le (p + 4 + n) (length file)) (got k (between (p + 4) (p + 4 + n) file) p) (refused (bad_record p))

-- what a reader at the place p answers
abbrev pub found : List ℕ → ℕ → Found
found file p =
    cond (p == length file) at_end
    (cond (nat_le (p + 4) (length file)) (sized file p (stated file p) (marked (slice_index file p) (slice_index file (p + 1)))) (refused (bad_record p)))

-- where a reader at p stands after an answer: right after a record, and else where it stood
abbrev pub moved : ℕ → Found → ℕ
moved p at_end = p
moved p (refused t) = p
moved p (got k body q) = p + 4 + length body

-- where a reader stands that was asked at the place p
abbrev pub after : List ℕ → ℕ → ℕ
after file p = moved p (found file p)

-- a record of the code, or none, as an answer
abbrev pub told_some : Option Record → Found
told_some None = at_end
told_some (Some r) = got r.kind r.body.now r.place

-- an answer of the code as an answer
abbrev pub told : Result (Option Record) BadRecord → Found
told (Ok o) = told_some o
told (Err e) = refused (telling e)

-- what follows an answer at p: after a record, what `more` gives from the record's end on
abbrev pub onward : (ℕ → List Found) → ℕ → Found → List Found
onward more p at_end = []
onward more p (refused t) = []
onward more p (got kind body q) = more (p + 4 + length body)

-- the answers of a reader that is at p and asked at most k times, up to the first that is no record
abbrev pub walk : ℕ → List ℕ → ℕ → List Found
walk zero file p = []
walk (suc k) file p = found file p ∷ onward (walk k file) p (found file p)

-- all that a reader answers, from the file's first byte to the first answer that is no record
abbrev pub answers : List ℕ → List Found
answers file = walk (length file + 1) file 0
