pub mod Slots
pub mod Orders
pub mod Numberings
pub mod Paths
pub mod Roots
pub mod Listings
