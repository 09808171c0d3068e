pub mod Trips
pub mod Settled
pub mod Ways
pub mod Pins
pub mod Turns
pub mod Sifts
pub mod Passes
