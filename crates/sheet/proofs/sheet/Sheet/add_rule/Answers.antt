-- What `add_rule` needs and the search leaves open.
use Rattle.std.proofs.Common.{◌≡◌, true, vec_items, vec_len, sym, ap, ◌∙◌}
use Rattle.sheet.specs.Rows.{rule_there}
use Rattle.sheet.specs.Sheets.{ruled}
use Rattle.sheet.proofs.Built.{ruled_push}
use Rattle.sheet.proofs.sheet.Sheet.add_rule.Goals as goal

pub invariant_of-self-clause-pairs : goal.invariant_of-self-clause-pairs
invariant_of-self-clause-pairs c =
    let sheet = c.args.self.now in
    let rule = c.args.rule in
    let m = vec_len sheet.rows in
    let k : rule_there m rule ≡ true = ap (λ n. rule_there n rule) (sym c.len.ensures) ∙ sym c.if-not-is_there.ensures in
    ap (ruled m) c.push_reserved.ensures.items ∙ ruled_push m (vec_items sheet.rules) rule sheet.pairs k
