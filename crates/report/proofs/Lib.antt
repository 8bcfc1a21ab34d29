-- Lemmas that several proofs share.
pub mod Cuts
pub mod Ruling
pub mod Rulings
pub mod Lengths
pub mod Walks
pub mod Flaws
pub mod Ending
pub mod Once
