-- A draft of a sheet's rows. No public contract cites this file. Assumes nothing.
use Rattle.std.specs.Prelude.{ℕ, List, [], ◌∷◌, ◌++◌, length, Some, None, Option}
use Rattle.sheet.specs.Rows.{row_refusal}
use Rattle.sheet.specs.Sheets.{classes_of}
use Rattle.sheet.specs.declared.refusal.Refusal.{Refusal}
use Rattle.sheet.specs.declared.row.Row.{Row}
use Rattle.text.specs.declared.draft.Draft.{Draft}

-- rows, and the first refusal among those that followed
pub record Drafted : Type 0 where
  pub rows : List Row
  pub refusal : Option Refusal

-- what a draft of the code holds
abbrev pub drafted : Draft → Drafted
drafted d = record { rows = d.rows.items; refusal = d.refusal }

-- a draft of these rows, to which none was added yet
abbrev pub fresh : List Row → Drafted
fresh rows = record { rows = rows; refusal = None }

-- one row more, and its number, unless it is refused
abbrev pub put_unless : Option Refusal → List Row → Row → Drafted × ℕ
put_unless (Some e) rows r = (record { rows = rows; refusal = Some e }, 0)
put_unless None rows r = (record { rows = rows ++ r ∷ []; refusal = None }, length rows)

-- one row more after an earlier refusal, which adds nothing, or after none
abbrev pub put_after : Option Refusal → List Row → Row → Drafted × ℕ
put_after (Some e) rows r = (record { rows = rows; refusal = Some e }, 0)
put_after None rows r = put_unless (row_refusal (classes_of rows) r) rows r

-- one row more in a draft, and its number
abbrev pub put_row : Drafted → Row → Drafted × ℕ
put_row d r = put_after d.refusal d.rows r
