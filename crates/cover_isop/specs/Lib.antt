pub mod Covers
pub mod CoverLasts
pub mod Isops
pub mod IsopLasts
