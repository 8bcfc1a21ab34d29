-- What the contracts of the evaluator cite.
pub mod Quantifiers
pub mod Rows
pub mod Folds
pub mod Truths
pub mod Standing
pub mod Looks
pub mod Tallies
