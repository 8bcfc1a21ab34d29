-- The lemmas that several proofs share.
pub mod Built
pub mod Rowwise
pub mod Mirrors
pub mod Sheeted
