-- The definitions that the contracts cite.
pub mod Verdicts
pub mod Refusals
pub mod Labels
pub mod Strips
pub mod Steps
pub mod Truth
pub mod Theorems
pub mod Examples
