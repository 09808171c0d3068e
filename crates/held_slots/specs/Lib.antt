pub mod SlotSets
pub mod Arcs
pub mod Notes
pub mod Linked
