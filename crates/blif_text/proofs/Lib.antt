pub mod Split
pub mod Joining
pub mod Keeping
pub mod Marks
