pub mod CountWords
pub mod RowMaps
