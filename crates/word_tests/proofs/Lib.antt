mod Lists
mod Sweeping
mod Counting
pub mod HeldRests
