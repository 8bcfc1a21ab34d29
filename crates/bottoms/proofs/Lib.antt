pub mod Bounded
pub mod Layouts
pub mod Walk
