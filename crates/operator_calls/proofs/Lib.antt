pub mod MakingLaws
mod CoverRuns
