-- A rule as a value, apart from any text and any sheet. Assumes nothing.
use Rattle.sheet.specs.Formulas.{Formula}

-- a rule as two formulas
pub record RuleFormulas : Type 0 where
  pub activator : Formula
  pub target : Formula
