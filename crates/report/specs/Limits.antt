-- The limits of a report.
use Rattle.std.specs.Prelude.{ℕ}

-- how many bytes a rules file has at most
abbrev pub max_rules_text : ℕ
max_rules_text = 8192

-- how many bytes a log has at most
abbrev pub max_log : ℕ
max_log = 65536

-- how many records a log has at most: each has at least four bytes
abbrev pub max_records : ℕ
max_records = 16384

-- how many bytes the line of a refused record has at most
abbrev pub record_line : ℕ
record_line = 25

-- how many bytes a report has at most: the lines of the records, and ten lines more
abbrev pub max_output : ℕ
max_output = 411520

-- how many cells a strip has for the longest trace under the longest sheet
abbrev pub strip_cells : ℕ
strip_cells = 32768
