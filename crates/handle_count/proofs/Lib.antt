pub mod RowLemmas
pub mod FreePlaces
pub mod Keeping
