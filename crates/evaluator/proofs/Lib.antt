-- The lemmas that several proofs share.
pub mod Ranges
pub mod Sets
pub mod Operands
pub mod Truthful
pub mod Counting
pub mod Standings
pub mod Refused
pub mod Tallied
