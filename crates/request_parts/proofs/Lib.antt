pub mod FitLaws
mod TakingLemmas
