pub mod Records
pub mod Bounds
