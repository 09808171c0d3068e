pub mod Triples
pub mod Cofactors
pub mod CofactorLasts
pub mod Implications
pub mod ImplicationLasts
