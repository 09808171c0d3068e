pub mod Unlinking
pub mod Tables
pub mod Steps
pub mod Links
pub mod Counts
pub mod Hands
pub mod Frees
pub mod Openings
