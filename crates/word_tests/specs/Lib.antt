pub mod Seats
pub mod Tidy
