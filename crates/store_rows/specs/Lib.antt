pub mod RowStores
pub mod MadeRows
pub mod Nodes
pub mod Levels
