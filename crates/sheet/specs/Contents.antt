-- What a sheet holds.
use Rattle.std.specs.Prelude.{List, vec_items}
use Rattle.sheet.specs.declared.row.Row.{Row}
use Rattle.sheet.specs.declared.row.Rule.{Rule}
use Rattle.sheet.specs.declared.sheet.Sheet.{Sheet}

-- the rows of a sheet
abbrev pub rows_of : Sheet → List Row
rows_of s = vec_items s.rows

-- the rules of a sheet
abbrev pub rules_of : Sheet → List Rule
rules_of s = vec_items s.rules
