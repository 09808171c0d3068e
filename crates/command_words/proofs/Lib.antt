pub mod Alone
pub mod Ranges
mod Rows
