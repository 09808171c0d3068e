pub mod Rooms
pub mod Lowered
