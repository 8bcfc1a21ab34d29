-- The bytes of the report's lines.
use Rattle.std.specs.Prelude.{ℕ, List, ◌++◌, codes, decimal}
use Rattle.lines.specs.declared.line.Line.{Line}
use Rattle.lines.specs.declared.wording.Entry.{Entry}
use Rattle.lines.specs.declared.wording.Entry.TheVariants.{Record, RuleLine}
use Rattle.register.specs.declared.figures.Figures.{Figures}

-- the bytes on a line
abbrev pub written : Line → List ℕ
written l = l.text.bytes

-- a text and then a number in decimal digits
abbrev pub numbered : List ℕ → ℕ → List ℕ
numbered text n = text ++ decimal n

-- a line's end
abbrev pub newline : List ℕ
newline = codes "\n"

-- the totals: how many traces, and how many instants
abbrev pub totals : ℕ → ℕ → List ℕ
totals traces instants = numbered (codes "traces ") traces ++ (numbered (codes " instants ") instants ++ newline)

-- a refused record: its number among the records, and the refusal's number
abbrev pub refused_record : ℕ → ℕ → List ℕ
refused_record number refusal = numbered (codes "record ") number ++ (numbered (codes " refused ") refusal ++ newline)

-- a log whose reading stops at the record that begins at this place
abbrev pub refused_log : ℕ → List ℕ
refused_log place = numbered (codes "log refused 16 at ") place ++ newline

-- a refused rule: the number of its line, and the refusal's number
abbrev pub refused_rule : ℕ → ℕ → List ℕ
refused_rule number refusal = numbered (codes "line ") number ++ (numbered (codes " refused ") refusal ++ newline)

-- the words before the number of what is refused
abbrev pub named : Entry → List ℕ
named Record = codes "record "
named RuleLine = codes "line "

-- a refused record, or a refused rule
abbrev pub refused : Entry → ℕ → ℕ → List ℕ
refused Record number refusal = refused_record number refusal
refused RuleLine number refusal = refused_rule number refusal

-- input that is too long
abbrev pub too_long : List ℕ
too_long = codes "too long\n"

-- a rule: its number, its four tallies, its triggered traces and its sum of degrees
abbrev pub rule : ℕ → Figures → List ℕ
rule number f =
    numbered (codes "rule ") number
    ++ (numbered (codes " both ") f.both
    ++ (numbered (codes " act ") f.act
    ++ (numbered (codes " tgt ") f.tgt
    ++ (numbered (codes " none ") f.none
    ++ (numbered (codes " trig ") f.triggered
    ++ (numbered (codes " deg ") f.degrees
    ++ newline))))))
