pub mod Places
pub mod Grammar
pub mod Names
pub mod Faults
pub mod Readings
pub mod Drafts
pub mod Histories
