pub mod Networks
pub mod Bounds
