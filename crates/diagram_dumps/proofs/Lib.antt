pub mod Counted
pub mod Identifiers
pub mod LineValues
pub mod Lines
pub mod Listed
pub mod Sameness
pub mod Shown
mod SizeRows
pub mod Standing
pub mod Walks
pub mod Writable
