-- What standing labels tell of one row at one instant.
use Rattle.std.proofs.Common.{◌≡◌, ℕ, ◌+◌, ◌-◌, ◌*◌, ◌<◌, ◌≤◌, leb, List, length, get_or, drop, Ok, Result, sym, ap, ◌∙◌, subst}
use Rattle.std.proofs.lemmas.Bool.{cond-true, le-leb}
use Rattle.label.specs.Labels.{label_at}
use Rattle.label.specs.Strips.{cell, label_answer, labelled}
use Rattle.label.specs.declared.refusal.Refusal.{Refusal}
use Rattle.label.specs.declared.verdict.Verdict.{Verdict}
use Rattle.label.specs.declared.verdict.Verdict.TheVariants.{No, Open}
use Rattle.label.proofs.Blocks.{labels_at}
use Rattle.sheet.specs.declared.row.Row.{Row}
use Rattle.register.specs.Contents.{Trace}

-- a strip that is long enough is labelled
pub answered : (n k cells : ℕ) (o : Result ℕ Refusal) → o ≡ label_answer n k cells → n * k ≤ cells → o ≡ Ok n
answered n k cells o e fit = e ∙ cond-true (leb (n * k) cells) _ _ (le-leb (n * k) cells fit)

-- and then its cells hold the labels
pub stood : (rs us : Trace) (rows : List Row) (k m cells : ℕ) (was strip : List Verdict) (o : Result ℕ Refusal)
    → o ≡ label_answer (length rs) k cells → length rs * k ≤ cells → strip ≡ labelled o Open rs rows was → rs ≡ us → m ≡ length rows
    → (i r : ℕ) → 1 ≤ i → i ≤ length us → r < m
    → get_or strip ((i - 1) * m + r) No ≡ label_at Open us rows i r
stood rs us rows k m cells was strip o answer fit is same rows_are i r low high lt =
    ap (λ x. get_or strip ((i - 1) * x + r) No) rows_are
    ∙ ap (λ s. get_or s (cell (length rows) i r) No) (is ∙ ap (λ x. labelled x Open rs rows was) (answered (length rs) k cells o answer fit))
    ∙ labels_at Open rs rows (drop (length rs * length rows) was) i r low (subst (λ x. i ≤ length x) (sym same) high) (subst (λ x. r < x) rows_are lt)
    ∙ ap (λ x. label_at Open x rows i r) same
