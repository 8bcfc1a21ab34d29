-- The lemmas that several proofs share.
pub mod Unrolled
pub mod Places
pub mod Sweeps
pub mod Truths
pub mod Flips
pub mod Blocks
pub mod Told
pub mod Tabled
