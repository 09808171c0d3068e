pub mod Latest
pub mod Chaining
pub mod Keyed
pub mod Entries
pub mod Removal
pub mod LeafKeys
pub mod Slots
