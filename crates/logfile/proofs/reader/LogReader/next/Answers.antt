-- What `next` needs and the search leaves open.
use Rattle.std.proofs.Common.{rules, ◌≡◌, ◌≤◌, length, ◌+◌, slice_index_or, Some, arith}
use Rattle.std.specs.List.{between}
use Rattle.std.proofs.lemmas.Grind.{common_steps}
use Rattle.logfile.specs.Log.{marked, stated}
use Rattle.logfile.proofs.Back.{handed_out}
use Rattle.logfile.proofs.reader.LogReader.next.Goals as goal

pub returns-clause-at : goal.returns-clause-at
returns-clause-at c =
    let file = c.args.self.now.file.now in
    let p = c.args.self.now.at in
    let n = c.from-len.result in
    let k = c.in_ok-kind.kind in
    let body = c.in_ok-body.body.now in
    let fits : p + 4 + n ≤ length file = search rules in
    let named : marked (slice_index_or file p 0) (slice_index_or file (p + 1) 0) ≡ Some k = grind (arith, common_steps) in
    let long : stated file p ≡ n = grind (arith, common_steps) in
    let part : body ≡ between (p + 4) (p + 4 + n) file = grind (arith, common_steps) in
    let size : length body ≡ n = search rules in
    let both = handed_out file p n k body fits named long part size in
    both.1

pub returns-clause-value : goal.returns-clause-value
returns-clause-value c =
    let file = c.args.self.now.file.now in
    let p = c.args.self.now.at in
    let n = c.from-len.result in
    let k = c.in_ok-kind.kind in
    let body = c.in_ok-body.body.now in
    let fits : p + 4 + n ≤ length file = search rules in
    let named : marked (slice_index_or file p 0) (slice_index_or file (p + 1) 0) ≡ Some k = grind (arith, common_steps) in
    let long : stated file p ≡ n = grind (arith, common_steps) in
    let part : body ≡ between (p + 4) (p + 4 + n) file = grind (arith, common_steps) in
    let size : length body ≡ n = search rules in
    let both = handed_out file p n k body fits named long part size in
    both.0
