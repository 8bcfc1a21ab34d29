-- The definitions that the contracts cite.
pub mod Limits
pub mod Classes
pub mod Formulas
pub mod Refusals
pub mod Rows
pub mod Sheets
pub mod Theorems
pub mod Contents
