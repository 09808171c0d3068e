pub mod Openings
pub mod Rooms
