pub mod Fields
pub mod Ranks
pub mod Faults
pub mod Reading
pub mod Readings
pub mod Written
pub mod Bounds
