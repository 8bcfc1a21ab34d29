-- The definitions that contracts cite.
pub mod Numbers
pub mod Failures
pub mod Rules
pub mod Taking
pub mod Peeking
pub mod Reporting
