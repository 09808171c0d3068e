pub mod Classes
pub mod RootClasses
pub mod Evaluations
pub mod Reports
