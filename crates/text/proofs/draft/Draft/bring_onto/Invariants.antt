-- What the loop of `bring_onto` keeps.
use Rattle.std.proofs.Common.{◌≡◌, ◌+◌, take, vec_items}
use Rattle.text.proofs.draft.Draft.bring_onto.Given as goal

-- the sheet has the draft's rows so far, and its rules
abbrev pub invariant-loop-row : goal.invariant-loop-row
invariant-loop-row l = record { rows : vec_items l.sheet.rows ≡ take (l.there + l.row-index) l.self.rows.items; rules : vec_items l.sheet.rules ≡ vec_items l.initial.sheet.rules }
