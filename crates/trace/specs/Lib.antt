pub mod Symbols
pub mod Readings
pub mod Unreadable
