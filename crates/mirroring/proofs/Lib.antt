-- The lemmas of the proof.
pub mod Backwards
