pub mod Naming
pub mod Serving
pub mod Soundness
pub mod Movings
pub mod Calm
pub mod RequestLemmas
pub mod Tellings
pub mod Tying
pub mod Tries
pub mod Calls
pub mod OnRows
pub mod Outcomes
pub mod OperationLaws
pub mod NumberLaws
pub mod FamilyLaws
mod CoverLists
mod CoverLaws
pub mod Ending
pub mod Turning
pub mod SessionLaws
pub mod WalkingLemmas
pub mod ListingLaws
mod Sweepings
mod Swappings
mod SiftTellings
pub mod Makings
pub mod AtRest
mod Awaiting
