pub mod ListLaws
mod NumberLemmas
mod FineLemmas
mod SoundLemmas
mod AvoidLemmas
mod PromiseLemmas
pub mod WalkLaws
pub mod PaidLaws
mod PlacesLemmas
mod RowLemmas
mod FoundLemmas
mod LeftOutLemmas
mod AnalysedLemmas
mod NodesLemmas
