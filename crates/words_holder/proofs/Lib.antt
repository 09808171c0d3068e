pub mod Holding
pub mod Telling
pub mod Firsts
