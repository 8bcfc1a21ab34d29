-- What `kurzhelim_rule_text` needs and the search leaves open.
use Rattle.std.proofs.Common.{length, ap, ◌∙◌}
use Rattle.register.specs.Contents.{content}
use Rattle.report.specs.Rules.{lines}
use Rattle.report.proofs.Rulings.{written}
use Rattle.exports.specs.Rules.{counted}
use Rattle.exports.proofs.rules.kurzhelim_rule_text.Goals as goal

pub returns-in-Ok : goal.returns-in-Ok
returns-in-Ok c =
    let sheet = c.in-Ok.sheet in
    let ruled = c.in-Ok.ensures in
    let said = written (lines c.args.rules.now) 0 (content sheet) ruled in
    counted (content sheet) ruled said (ap length c.rules.ensures.value ∙ said.as_many)
