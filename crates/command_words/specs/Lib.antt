pub mod Table
pub mod Values
pub mod Orders
