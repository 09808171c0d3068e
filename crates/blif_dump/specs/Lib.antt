pub mod Lines
pub mod Names
pub mod Marks
pub mod Tables
pub mod Naming
pub mod Multiplexers
pub mod Calls
