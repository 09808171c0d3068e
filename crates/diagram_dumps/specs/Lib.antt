pub mod Dumps
pub mod WellMade
pub mod Under
pub mod Agreement
pub mod Listings
