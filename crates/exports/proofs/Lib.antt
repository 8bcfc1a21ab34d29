-- Lemmas that several proofs share.
pub mod Failing
pub mod Replies
pub mod Notes
pub mod Looks
pub mod Fills
pub mod Traces
pub mod Texts
