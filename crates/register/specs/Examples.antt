-- Worked examples of labels, degrees and peeks, as one table. Letters a to e are symbols 0 to 4; each sheet has one rule.
use Rattle.std.specs.Prelude.{◌≡◌, ℕ, List, [], ◌∷◌, map, reverse}
use Rattle.std.specs.List.{AllByRecursion}
use Rattle.label.specs.Examples.{labels_of}
use Rattle.label.specs.declared.verdict.Verdict.{Verdict}
use Rattle.label.specs.declared.verdict.Verdict.TheVariants.{No, Open, Yes}
use Rattle.sheet.specs.declared.row.Row.{Row}
use Rattle.sheet.specs.declared.row.Row.TheVariants as row
use Rattle.register.specs.Calls.{opening, noting, peeking, verdicts}
use Rattle.register.specs.Contents.{Content, mirrored, activator, target, coded_trace}
use Rattle.register.specs.Journal.{journal_after, Answers}
use Rattle.register.specs.Tallies.{Degree}

-- A line of the table. Closed: the sheet, the codes of the trace, the labels of activator and target, and the degree.
-- Live: the sheet, the codes noted, and what a peek at instant 1 then answers.
pub data Line : Type 0 where
  closed : Content → List ℕ → List Verdict → List Verdict → ℕ → Line
  live : Content → List ℕ → Verdict → Verdict → Line

-- The line comes out: the labels are the settled ones and the degree is that of the trace; or a register with mark 7 on that
-- sheet, after opening a trace and noting the codes, is asked for the verdicts at instant 1 and answers those.
abbrev pub ComesOut : Line → Type 0
ComesOut (closed c codes acts meets d) =
    (labels_of No (coded_trace codes) (activator c 0) ≡ acts) × (labels_of No (coded_trace codes) (target c 0) ≡ meets)
    × Degree (activator c 0) (target c 0) (coded_trace codes) d
ComesOut (live c codes v w) = Answers (journal_after c 7 (opening ∷ map (noting 7) codes)) (peeking 7 0 1) (verdicts v w)

-- a sheet of these rows whose one rule has row 0 as its activator and the row of this number as its target
abbrev pub sheet_of : List Row → ℕ → Content
sheet_of rows t = record { rows = rows; rules = record { activator = 0; target = t } ∷ [] }

-- a => (true since d)
abbrev pub d_before : Content
d_before = sheet_of (row.Symbol 0 ∷ row.True ∷ row.Symbol 3 ∷ row.Since 1 2 ∷ []) 3

-- a => (true until d)
abbrev pub d_after : Content
d_after = sheet_of (row.Symbol 0 ∷ row.True ∷ row.Symbol 3 ∷ row.Until 1 2 ∷ []) 3

-- a => ((true since b) or (true until b))
abbrev pub b_somewhere : Content
b_somewhere = sheet_of (row.Symbol 0 ∷ row.True ∷ row.Symbol 1 ∷ row.Since 1 2 ∷ row.Until 1 2 ∷ row.Or 3 4 ∷ []) 5

-- a => (next a), and a => (next d)
abbrev pub next_is : ℕ → Content
next_is s = sheet_of (row.Symbol 0 ∷ row.Symbol s ∷ row.Next 1 ∷ []) 2

-- a => ((true until d) or (not (true until d)))
abbrev pub d_or_not : Content
d_or_not = sheet_of (row.Symbol 0 ∷ row.True ∷ row.Symbol 3 ∷ row.Until 1 2 ∷ row.Not 3 ∷ row.Or 3 4 ∷ []) 5

-- The table: d a b c a with b somewhere; a d a c a and b c d e with d before; a c a d a with d after; a alone with a next;
-- live: a with d after, and the same once d has come; a c with d next; a with d after or not.
abbrev pub lines : List Line
lines =
    closed b_somewhere (3 ∷ 0 ∷ 1 ∷ 2 ∷ 0 ∷ []) (No ∷ Yes ∷ No ∷ No ∷ Yes ∷ []) (Yes ∷ Yes ∷ Yes ∷ Yes ∷ Yes ∷ []) 1000000
    ∷ closed d_before (0 ∷ 3 ∷ 0 ∷ 2 ∷ 0 ∷ []) (Yes ∷ No ∷ Yes ∷ No ∷ Yes ∷ []) (No ∷ Yes ∷ Yes ∷ Yes ∷ Yes ∷ []) 666666
    ∷ closed d_before (1 ∷ 2 ∷ 3 ∷ 4 ∷ []) (No ∷ No ∷ No ∷ No ∷ []) (No ∷ No ∷ Yes ∷ Yes ∷ []) 0
    ∷ closed d_after (0 ∷ 2 ∷ 0 ∷ 3 ∷ 0 ∷ []) (Yes ∷ No ∷ Yes ∷ No ∷ Yes ∷ []) (Yes ∷ Yes ∷ Yes ∷ Yes ∷ No ∷ []) 666666
    ∷ closed (next_is 0) (0 ∷ []) (Yes ∷ []) (No ∷ []) 0
    ∷ live d_after (0 ∷ []) Yes Open
    ∷ live d_after (0 ∷ 3 ∷ []) Yes Yes
    ∷ live (next_is 3) (0 ∷ 2 ∷ []) Yes No
    ∷ live d_or_not (0 ∷ []) Yes Open
    ∷ []

-- Every line of the table comes out, and the fourth is the mirror of the second: its sheet is the mirrored one, and its trace
-- the reversed one.
abbrev pub LinesHold : Type 0
LinesHold =
    AllByRecursion ComesOut lines × (d_after ≡ mirrored d_before)
    × (coded_trace (0 ∷ 2 ∷ 0 ∷ 3 ∷ 0 ∷ []) ≡ reverse (coded_trace (0 ∷ 3 ∷ 0 ∷ 2 ∷ 0 ∷ [])))
