pub mod EightLemmas
pub mod FourLemmas
mod SizeRows
