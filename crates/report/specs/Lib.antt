-- The definitions that contracts cite.
pub mod Limits
pub mod Rules
pub mod Traces
pub mod Output
pub mod Counts
