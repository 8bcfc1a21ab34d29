-- The definitions that the contracts cite.
pub mod Limits
pub mod Contents
pub mod Tallies
pub mod Sums
pub mod Bounds
pub mod Refusals
pub mod Calls
pub mod Journal
pub mod State
pub mod History
pub mod Answers
pub mod Examples
