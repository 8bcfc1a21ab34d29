pub mod Answers
pub mod Bits
pub mod Causes
pub mod Search
