pub mod ClashLemmas
pub mod CausesLemmas
pub mod CopyLemmas
pub mod CoveredLemmas
pub mod StandingLemmas
pub mod OutcomesLemmas
pub mod PartsCoveredLemmas
pub mod FinishedLemmas
