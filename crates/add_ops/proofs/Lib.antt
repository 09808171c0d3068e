pub mod LeafLaws
pub mod ExactLaws
mod ConversionLaws
mod TruthLaws
mod SumLaws
pub mod OutcomeLaws
