pub mod Chains
pub mod Knowing
pub mod Plain
pub mod TableLaws
pub mod Walking
