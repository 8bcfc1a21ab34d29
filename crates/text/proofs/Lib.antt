-- The lemmas that several proofs share.
pub mod Shapes
pub mod Steps
pub mod Numbers
pub mod Groups
pub mod Language
pub mod Levels
pub mod Complete
pub mod Verdict
pub mod Unique
pub mod Decided
pub mod Puts
pub mod Sizes
pub mod Planted
pub mod Means
pub mod Added
pub mod Settled
pub mod Laws
