mod Rows
pub mod Places
pub mod Texts
pub mod Prefixes
pub mod Variables
