pub mod Filling
pub mod Forms
