-- The algebra of verdicts.
use Rattle.std.specs.Prelude.{ℕ, Bool, true, false, List, codes}
use Rattle.label.specs.declared.verdict.Verdict.{Verdict}
use Rattle.label.specs.declared.verdict.Verdict.TheVariants.{No, Open, Yes}

-- the lower of two, in the order no, open, yes
abbrev pub lower : Verdict → Verdict → Verdict
lower No w = No
lower Open No = No
lower Open Open = Open
lower Open Yes = Open
lower Yes w = w

-- the higher of two, in the same order
abbrev pub higher : Verdict → Verdict → Verdict
higher No w = w
higher Open No = Open
higher Open Open = Open
higher Open Yes = Yes
higher Yes w = Yes

-- yes and no change places, and open stays
abbrev pub swapped : Verdict → Verdict
swapped No = Yes
swapped Open = Open
swapped Yes = No

-- yes where a test passes, no where it does not
abbrev pub yes_if : Bool → Verdict
yes_if true = Yes
yes_if false = No

-- each verdict in a word
abbrev pub spelled : Verdict → List ℕ
spelled No = codes "no"
spelled Open = codes "open"
spelled Yes = codes "yes"
