pub mod Chains
pub mod Tables
pub mod Leaves
pub mod Slotted
