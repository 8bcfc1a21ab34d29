-- Worked examples of labelling, as one table. Letters a to e are symbols 0 to 4.
use Rattle.std.specs.Prelude.{◌≡◌, ℕ, List, [], ◌∷◌, map, length, Ok}
use Rattle.std.specs.List.{range_with_len, AllByRecursion}
use Rattle.sheet.specs.Formulas.{Formula, True, Symbol, Not, Or, Next, Until, Since}
use Rattle.trace.specs.Symbols.{only}
use Rattle.trace.specs.Readings.{Reading}
use Rattle.label.specs.Labels.{verdict}
use Rattle.label.specs.declared.verdict.Verdict.{Verdict}
use Rattle.label.specs.declared.verdict.Verdict.TheVariants.{No, Open, Yes}

-- a trace at each of whose instants one symbol holds
abbrev pub single_symbols : List ℕ → List Reading
single_symbols cs = map (λ c. Ok (record { symbols = only c })) cs

-- the verdicts of a formula at all instants of a trace, where e is the verdict beyond
abbrev pub labels_of : Verdict → List Reading → Formula → List Verdict
labels_of e rs f = map (verdict e rs f) (range_with_len 1 (length rs))

-- a line of the table: the verdict beyond, the trace, a rule as its two formulas, and the labels of each
pub record Example : Type 0 where
  pub beyond : Verdict
  pub trace : List ℕ
  pub activator : Formula
  pub target : Formula
  pub activates : List Verdict
  pub meets : List Verdict

-- the labelling rules give the line's labels
abbrev pub ComesOut : Example → Type 0
ComesOut x =
    (labels_of x.beyond (single_symbols x.trace) x.activator ≡ x.activates)
    × (labels_of x.beyond (single_symbols x.trace) x.target ≡ x.meets)

-- d holds here or held before
abbrev d_since : Formula
d_since = Since True (Symbol 3)

-- d holds here or will hold
abbrev d_until : Formula
d_until = Until True (Symbol 3)

-- The table. Settled: d a b c a with b seen before or after; a d a c a and b c d e with d seen before; a c a d a with d seen
-- after; a alone, whose next is no at the last instant.
-- Standing: a with d to come, and the same once d has come; a c, whose next is no d; a, where d may come or not. Settled once
-- more: a b, where a until b asks nothing of a at the instant where b holds.
abbrev pub examples : List Example
examples =
    record { beyond = No; trace = 3 ∷ 0 ∷ 1 ∷ 2 ∷ 0 ∷ []; activator = Symbol 0; target = Or (Since True (Symbol 1)) (Until True (Symbol 1)); activates = No ∷ Yes ∷ No ∷ No ∷ Yes ∷ []; meets = Yes ∷ Yes ∷ Yes ∷ Yes ∷ Yes ∷ [] }
    ∷ record { beyond = No; trace = 0 ∷ 3 ∷ 0 ∷ 2 ∷ 0 ∷ []; activator = Symbol 0; target = d_since; activates = Yes ∷ No ∷ Yes ∷ No ∷ Yes ∷ []; meets = No ∷ Yes ∷ Yes ∷ Yes ∷ Yes ∷ [] }
    ∷ record { beyond = No; trace = 1 ∷ 2 ∷ 3 ∷ 4 ∷ []; activator = Symbol 0; target = d_since; activates = No ∷ No ∷ No ∷ No ∷ []; meets = No ∷ No ∷ Yes ∷ Yes ∷ [] }
    ∷ record { beyond = No; trace = 0 ∷ 2 ∷ 0 ∷ 3 ∷ 0 ∷ []; activator = Symbol 0; target = d_until; activates = Yes ∷ No ∷ Yes ∷ No ∷ Yes ∷ []; meets = Yes ∷ Yes ∷ Yes ∷ Yes ∷ No ∷ [] }
    ∷ record { beyond = No; trace = 0 ∷ []; activator = Symbol 0; target = Next (Symbol 0); activates = Yes ∷ []; meets = No ∷ [] }
    ∷ record { beyond = Open; trace = 0 ∷ []; activator = Symbol 0; target = d_until; activates = Yes ∷ []; meets = Open ∷ [] }
    ∷ record { beyond = Open; trace = 0 ∷ 3 ∷ []; activator = Symbol 0; target = d_until; activates = Yes ∷ No ∷ []; meets = Yes ∷ Yes ∷ [] }
    ∷ record { beyond = Open; trace = 0 ∷ 2 ∷ []; activator = Symbol 0; target = Next (Symbol 3); activates = Yes ∷ No ∷ []; meets = No ∷ Open ∷ [] }
    ∷ record { beyond = Open; trace = 0 ∷ []; activator = Symbol 0; target = Or d_until (Not d_until); activates = Yes ∷ []; meets = Open ∷ [] }
    ∷ record { beyond = No; trace = 0 ∷ 1 ∷ []; activator = Symbol 0; target = Until (Symbol 0) (Symbol 1); activates = Yes ∷ No ∷ []; meets = Yes ∷ Yes ∷ [] }
    ∷ []

-- every line of the table comes out
abbrev pub ExamplesHold : Type 0
ExamplesHold = AllByRecursion ComesOut examples
