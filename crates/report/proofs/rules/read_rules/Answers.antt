-- What `read_rules` needs and the search leaves open.
use Rattle.std.proofs.Common.{◌≡◌, ℕ, ◌+◌, ◌<◌, List, [], ◌∷◌, length, get_or, drop, Ok, Err, sym, ap, ◌∙◌, subst, rules, tests, arith}
use Rattle.std.specs.List.{slice_split, enumerate_from}
use Rattle.std.proofs.lemmas.Iterator.Consumers.{YieldsList-at, YieldsList-from_enumerate, YieldsList-turn, YieldsList-end}
use Rattle.std.proofs.lemmas.Iterator.Splits.{YieldsList-from_slice_split}
use Rattle.std.proofs.lemmas.List.{drop_more, drop_all, length_push}
use Rattle.std.proofs.lemmas.List.FromFn.{length-enumerate_from, get_or-enumerate_from}
use Rattle.register.specs.Contents.{content}
use Rattle.report.specs.Rules.{lines, Ruled}
use Rattle.report.proofs.Cuts.{newline, lines_of}
use Rattle.report.proofs.Ruling.{all_at, more_at, stop_at}
use Rattle.report.proofs.rules.read_rules.Goals as goal

-- what the next part is, and its number
next_line : (all parts : List (List ℕ)) (n k : ℕ) (line : List ℕ) → all ≡ parts
    → (n < length (enumerate_from 0 parts)) × ((k, line) ≡ get_or (enumerate_from 0 parts) n (k, line))
    → (k ≡ n) × (drop n all ≡ line ∷ drop (n + 1) all)
next_line all parts n k line same h =
    let lt : n < length parts = omega (arith, h.0, length-enumerate_from 0 parts) in
    let item = h.1 ∙ get_or-enumerate_from 0 parts n (k, line) lt in
    let number : k ≡ 0 + n = ap (λ (p : ℕ × List ℕ). p.0) item in
    let there : line ≡ get_or parts n line = ap (λ (p : ℕ × List ℕ). p.1) item in (
      omega arith,
      ap (drop n) same ∙ drop_more parts n line lt ∙ (λ i. sym there i ∷ drop (n + 1) (sym same i)),
    )

pub loop-k-preserved : goal.loop-k-preserved
loop-k-preserved c =
    let text = c.args.text.now in
    let body = c.without_newline-body.result.now in
    let parts : List (List ℕ) = slice_split newline body in
    let some : 0 < length text = search rules in
    let same : lines text ≡ parts = lines_of text some ∙ ap (slice_split newline) (sym c.without_newline-body.ensures) in
    let n = length c.loop-k.yielded in
    let turn = YieldsList-turn (YieldsList-at c.into_iter-k-iterator.ensures.into_iter_gives (YieldsList-from_enumerate (YieldsList-at c.enumerate-k-items.ensures.source
    (YieldsList-from_slice_split _ newline body c.split.ensures.rest c.split.ensures.done c.split.ensures.closure (λ x b q k. search (rules, tests))))
    c.enumerate-k-items.ensures.count))
    c.loop-k.yielded _ c.loop-k.yielded_by _ _ (c.in-Some.k, c.in-Some.line) c.in-Some.is c.next.ensures.steps in
    let next = next_line (lines text) parts n c.in-Some.k c.in-Some.line.now same turn in (
      search rules,
      search rules,
      λ r last d. c.loop-k.invariant.2 r last
          (more_at n c.in_default.field-0 (drop n (lines text)) c.in-Some.line.now (drop (n + 1) (lines text))
          (content c.loop-k.sheet) (content c.add_rule_text.new.sheet) last r next.1 c.in_default.ensures.outcome
          (subst (λ (j : ℕ). Ruled j (drop j (lines text)) (content c.add_rule_text.new.sheet) r last) (length_push c.loop-k.yielded (c.in-Some.k, c.in-Some.line)) d)),
    )

pub returns-in-Err : goal.returns-in-Err
returns-in-Err c =
    let text = c.args.text.now in
    let body = c.without_newline-body.result.now in
    let parts : List (List ℕ) = slice_split newline body in
    let some : 0 < length text = search rules in
    let same : lines text ≡ parts = lines_of text some ∙ ap (slice_split newline) (sym c.without_newline-body.ensures) in
    let n = length c.loop-k.yielded in
    let turn = YieldsList-turn (YieldsList-at c.into_iter-k-iterator.ensures.into_iter_gives (YieldsList-from_enumerate (YieldsList-at c.enumerate-k-items.ensures.source
    (YieldsList-from_slice_split _ newline body c.split.ensures.rest c.split.ensures.done c.split.ensures.closure (λ x b q k. search (rules, tests))))
    c.enumerate-k-items.ensures.count))
    c.loop-k.yielded _ c.loop-k.yielded_by _ _ (c.in-Some.k, c.in-Some.line) c.in-Some.is c.next.ensures.steps in
    let next = next_line (lines text) parts n c.in-Some.k c.in-Some.line.now same turn in
    let last = content c.add_rule_text.new.sheet in
    c.loop-k.invariant.2 (Err (record { number = c.in-Some.k + 1; refusal = c.in-Err.refusal })) last
    (subst (λ (j : ℕ). Ruled n (drop n (lines text)) (content c.loop-k.sheet) (Err (record { number = j + 1; refusal = c.in-Err.refusal })) last) (sym next.0)
    (stop_at n (drop n (lines text)) c.in-Some.line.now (drop (n + 1) (lines text)) (content c.loop-k.sheet) last c.in-Err.refusal next.1 c.in-Err.ensures.outcome))

pub returns : goal.returns
returns c =
    let text = c.args.text.now in
    let body = c.without_newline-body.result.now in
    let parts : List (List ℕ) = slice_split newline body in
    let some : 0 < length text = search rules in
    let same : lines text ≡ parts = lines_of text some ∙ ap (slice_split newline) (sym c.without_newline-body.ensures) in
    let n = length c.loop-k.yielded in
    let end = YieldsList-end (YieldsList-at c.into_iter-k-iterator.ensures.into_iter_gives (YieldsList-from_enumerate (YieldsList-at c.enumerate-k-items.ensures.source
    (YieldsList-from_slice_split _ newline body c.split.ensures.rest c.split.ensures.done c.split.ensures.closure (λ x b q k. search (rules, tests))))
    c.enumerate-k-items.ensures.count))
    c.loop-k.yielded _ c.loop-k.yielded_by _ _ c.in-None.is c.next.ensures.steps in
    let none : drop n (lines text) ≡ [] = drop_all n (lines text) (omega (arith, end.1, length-enumerate_from 0 parts, ap length same)) in
    c.loop-k.invariant.2 (Ok tt) (content c.loop-k.sheet) (all_at n (drop n (lines text)) (content c.loop-k.sheet) none)
