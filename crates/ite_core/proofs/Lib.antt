pub mod Terminals
pub mod Complements
pub mod TripleLaws
pub mod ExclusiveLaws
pub mod CofactorLaws
pub mod ImplicationLaws
pub mod OutcomeLaws
