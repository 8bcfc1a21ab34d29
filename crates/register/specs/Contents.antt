-- What is written on a sheet, and what is written in an open trace.
use Rattle.std.specs.Prelude.{ℕ, List, map, slice_index_or}
use Rattle.label.specs.Examples.{single_symbols}
use Rattle.sheet.specs.Contents.{rows_of, rules_of}
use Rattle.sheet.specs.Formulas.{Formula}
use Rattle.sheet.specs.Rows.{mirror_row}
use Rattle.sheet.specs.Sheets.{formula}
use Rattle.sheet.specs.declared.row.Row.{Row}
use Rattle.sheet.specs.declared.row.Rule.{Rule}
use Rattle.sheet.specs.declared.sheet.Sheet.{Sheet}
use Rattle.trace.specs.Readings.{Reading}

-- the rows and the rules of a sheet
pub record Content : Type 0 where
  pub rows : List Row
  pub rules : List Rule

-- what a sheet holds
abbrev pub content : Sheet → Content
content s = record { rows = rows_of s; rules = rules_of s }

-- the mirrored sheet: each row mirrored, and the rules as they are
abbrev pub mirrored : Content → Content
mirrored c = record { rows = map mirror_row c.rows; rules = c.rules }

-- the rule numbered k
abbrev pub rule_at : Content → ℕ → Rule
rule_at c k = slice_index_or c.rules k (record { activator = 0; target = 0 })

-- the formula of the activator of the rule numbered k
abbrev pub activator : Content → ℕ → Formula
activator c k = formula c.rows (rule_at c k).activator

-- the formula of the target of the rule numbered k
abbrev pub target : Content → ℕ → Formula
target c k = formula c.rows (rule_at c k).target

-- a trace, as the readings of its instants
abbrev pub Trace : Type 0
Trace = List Reading

-- the trace of these codes: at each instant the set of that one symbol
unfoldable pub coded_trace : List ℕ → Trace
coded_trace codes = single_symbols codes
