-- Log records as they are written, and the laws of reading them. Assumes nothing.
use Rattle.std.specs.Prelude.{◌≡◌, ℕ, zero, suc, ◌+◌, ◌/◌, ◌%◌, ◌<◌, List, ◌∷◌, ◌++◌, length, drop, slice_index}
use Rattle.logfile.specs.declared.record.Kind.{Kind}
use Rattle.logfile.specs.declared.record.Kind.TheVariants.{Codes, Snapshots, Runs}
use Rattle.logfile.specs.Refusals.{Telling}
use Rattle.logfile.specs.Log.{refused, got, found, after}

-- the second byte of a kind's mark
abbrev pub mark : Kind → ℕ
mark Codes = 1
mark Snapshots = 2
mark Runs = 3

-- a record's bytes: mark, body length with the high byte first, body
abbrev pub encoded : Kind → List ℕ → List ℕ
encoded k body = 90 ∷ mark k ∷ length body / 256 ∷ length body % 256 ∷ body

-- wherever a record stands in a file, a reader there answers its kind, its body and its place, and is then right after it
abbrev pub ReadsBack : Type 0
ReadsBack = (before later body : List ℕ) (k : Kind) → length body < 65536
    → (found (before ++ (encoded k body ++ later)) (length before) ≡ got k body (length before))
    × (after (before ++ (encoded k body ++ later)) (length before) ≡ length before + length (encoded k body))

-- each number of the list is a byte
abbrev pub Bytes : List ℕ → Type 0
Bytes file = (i : ℕ) → slice_index file i < 256

-- a record that is handed out stands in the file, encoded, at its place, which is where the reader stood
abbrev pub StandsThere : Type 0
StandsThere = (file body : List ℕ) (p q : ℕ) (k : Kind) → Bytes file → found file p ≡ got k body q
    → (q ≡ p) × (drop p file ≡ encoded k body ++ drop (p + length (encoded k body)) file)

-- where a reader stands that was asked n times, first at the place p
abbrev pub after_times : ℕ → List ℕ → ℕ → ℕ
after_times zero file p = p
after_times (suc n) file p = after_times n file (after file p)

-- after a refusal the reader stays, and answers the same however often it is asked
abbrev pub Stays : Type 0
Stays = (file : List ℕ) (p n : ℕ) (t : Telling) → found file p ≡ refused t
    → (after_times n file p ≡ p) × (found file (after_times n file p) ≡ refused t)

-- the laws of reading a log file
pub record ReadingLaws : Type 0 where
  pub reads_back : ReadsBack
  pub stands_there : StandsThere
  pub stays : Stays
