pub mod Refusals
pub mod Renamings
pub mod Layers
pub mod Bounds
