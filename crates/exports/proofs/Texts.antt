-- No report is empty.
use Rattle.std.proofs.Common.{ℕ, ◌<◌, List, ◌++◌, length, codes, decimal, ap, arith, length-append}
use Rattle.lines.specs.Lines.{numbered, newline, totals}
use Rattle.register.specs.Journal.{instants}
use Rattle.text.specs.Refusals.{code}
use Rattle.report.specs.Output.{Reported, long, line_refused, whole, log_lines, log_journal, log_figures, rule_lines}

-- a text, and then a number and more
numbered_some : (n : ℕ) (text more : List ℕ) → 0 < length text → 0 < length (numbered text n ++ more)
numbered_some n text more some = omega (arith, length-append (numbered text n) more, length-append text (decimal n), some)

pub some_text : (rules log text : List ℕ) → Reported rules log text → 0 < length text
some_text rules log text (long h e) = omega (arith, ap length e)
some_text rules log text (line_refused h why c d e) =
    omega (arith, ap length e, numbered_some why.number (codes "line ") (numbered (codes " refused ") (code why.refusal).number ++ newline) (omega arith))
some_text rules log text (whole h c d w e) =
    let line : List ℕ = totals (length (log_journal c log).traces) (instants (log_journal c log).traces) in
    let rest : List ℕ = rule_lines 0 (length c.rules) (log_figures c log) in
    omega (
      arith,
      ap length e.is,
      length-append (log_lines c log) (line ++ rest),
      length-append line rest,
      numbered_some (length (log_journal c log).traces) (codes "traces ") (numbered (codes " instants ") (instants (log_journal c log).traces) ++ newline) (omega arith),
    )
