-- The lemmas that several proofs share.
pub mod Counts
pub mod Truths
pub mod Owned
pub mod Shown
pub mod Laws
pub mod Open
pub mod Adds
pub mod Stood
pub mod Table
pub mod Tabled
