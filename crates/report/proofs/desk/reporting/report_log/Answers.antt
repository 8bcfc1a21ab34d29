-- What `report_log` needs and the search leaves open.
use Rattle.std.proofs.Common.{◌≡◌, length, vec_items, ap, subst, arith}
use Rattle.register.specs.Contents.{Content, content}
use Rattle.register.specs.State.{State}
use Rattle.report.specs.Counts.{sheet_of, Logged}
use Rattle.report.proofs.Ending.{whole_from}
use Rattle.report.proofs.desk.reporting.report_log.Goals as goal

pub returns : goal.returns
returns c =
    let log = c.args.log.now in
    let r = c.read_log-stop.new.register in
    let count = c.read_log-stop.result.0 in
    let stop = c.read_log-stop.result.1 in
    let same : sheet_of c.new-register.result ≡ content c.args.sheet = ap (λ (v : State). v.held.content) c.new-register.ensures.state_is in
    let logged = subst (λ (x : Content). Logged x log r count stop (vec_items c.read_log-stop.new.out.bytes)) same c.read_log-stop.ensures in
    whole_from (content c.args.sheet) log r count stop (vec_items c.read_log-stop.new.out.bytes) (vec_items c.add_totals.new.self.bytes) (vec_items c.add_rules.new.self.bytes)
    (length c.rules-rules.result.now) c.new-register.ensures.runs (omega (arith, c.args.sheet.rows.ok.0, c.args.sheet.few)) c.requires.short logged
    c.add_totals.ensures.items (ap length c.rules-rules.ensures.value) c.add_rules.ensures
