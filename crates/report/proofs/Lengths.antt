-- How long the lines of a report are.
use Rattle.std.proofs.Common.{ℕ, ◌<◌, ◌≤◌, ◌++◌, length, codes, decimal, arith, length-append}
use Rattle.std.proofs.lemmas.Fmt.{length-decimal-le}
use Rattle.lines.specs.Lines.{numbered, newline, refused_record}
use Rattle.report.specs.Limits.{max_records, record_line}

-- The line of a refused record.
pub record_short : (n r : ℕ) → n ≤ max_records → r < 256 → length (refused_record n r) ≤ record_line
record_short n r few small =
    omega (
      arith,
      length-append (numbered (codes "record ") n) (numbered (codes " refused ") r ++ newline),
      length-append (codes "record ") (decimal n),
      length-append (numbered (codes " refused ") r) newline,
      length-append (codes " refused ") (decimal r),
      length-decimal-le 5 n (omega arith) (omega arith) (omega arith),
      length-decimal-le 3 r (omega arith) (omega arith) (omega arith),
    )
