-- What `add_refusal` needs and the search leaves open.
use Rattle.std.proofs.Common.{◌≤◌, length, ap, arith}
use Rattle.lines.specs.Lines.{written}
use Rattle.report.specs.Limits.{record_line}
use Rattle.report.proofs.Lengths.{record_short}
use Rattle.report.proofs.output.Output.add_refusal.Goals as goal

pub add_line-requires : goal.add_line-requires
add_line-requires c =
    let short : length (written c.refused_line.result) ≤ record_line
    = omega (arith, ap length c.refused_line.ensures, record_short c.args.number c.number.result c.requires.few c.number.type_inv) in
    omega (arith, c.requires.room)

pub returns-in-Err-clause-len : goal.returns-in-Err-clause-len
returns-in-Err-clause-len c =
    let short : length (written c.refused_line.result) ≤ record_line
    = omega (arith, ap length c.refused_line.ensures, record_short c.args.number c.number.result c.requires.few c.number.type_inv) in
    omega (arith, c.add_line.ensures.len)
