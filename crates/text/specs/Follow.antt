-- Rows that were accepted one after another. No public contract cites this file. Assumes nothing.
use Rattle.std.specs.Prelude.{◌≡◌, ℕ, ◌<◌, List, length, take, None, slice_index_or}
use Rattle.sheet.specs.Rows.{row_refusal}
use Rattle.sheet.specs.Sheets.{classes_of}
use Rattle.sheet.specs.declared.row.Row.{Row}
use Rattle.sheet.specs.declared.row.Row.TheVariants as row

-- each row may follow the rows before it
abbrev pub Follow : List Row → Type 0
Follow rows = (k : ℕ) → k < length rows → row_refusal (classes_of (take k rows)) (slice_index_or rows k row.True) ≡ None
