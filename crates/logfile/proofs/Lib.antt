-- The lemmas that several proofs share.
pub mod Back
pub mod There
