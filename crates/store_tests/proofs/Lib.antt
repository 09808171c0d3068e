pub mod StoreLemmas
pub mod Reorders
