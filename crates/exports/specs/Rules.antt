-- What reading rule lines onto an empty sheet comes to.
use Rattle.std.specs.Prelude.{◌≡◌, ℕ, ◌⊎◌, List, length, Ok, Err}
use Rattle.text.specs.Refusals.{code}
use Rattle.register.specs.Contents.{Content}
use Rattle.report.specs.Output.{empty_sheet}
use Rattle.report.specs.Rules.{lines, Ruled, Written}
use Rattle.report.specs.declared.rules.RefusedLine.{RefusedLine}
use Rattle.exports.specs.Numbers.{no_memory}

-- every line is accepted, and they leave this sheet
abbrev pub SheetOf : List ℕ → Content → Type 0
SheetOf rules c = Ruled 0 (lines rules) empty_sheet (Ok tt) c

-- the first line that is refused is refused by this number
abbrev pub LineRefused : List ℕ → ℕ → Type 0
LineRefused rules n = (why : RefusedLine) × (c : Content) × Ruled 0 (lines rules) empty_sheet (Err why) c × (n ≡ (code why.refusal).number)

-- why there is no sheet: a line is refused, or there is no memory
abbrev pub NoSheet : List ℕ → ℕ → Type 0
NoSheet rules n = LineRefused rules n ⊎ (n ≡ no_memory)

-- What the call that reads rule lines answers: how many rules there are, one to a line, or why there is no sheet.
pub data CountedRules (rules : List ℕ) (r : ℕ) : Type 0 where
  counted : (c : Content) → SheetOf rules c → Written (lines rules) c → r ≡ length (lines rules) → CountedRules rules r
  unruled : NoSheet rules r → CountedRules rules r
