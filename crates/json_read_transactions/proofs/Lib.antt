pub mod TakingLemmas
pub mod TakingLaws
pub mod LineLemmas
pub mod Worked
