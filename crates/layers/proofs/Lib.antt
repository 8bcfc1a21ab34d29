pub mod Layered
pub mod Sent
