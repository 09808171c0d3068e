pub mod Elements
pub mod Elementwise
pub mod Subsets
pub mod Rooms
pub mod Products
pub mod ProductLasts
pub mod Quotients
pub mod QuotientLasts
