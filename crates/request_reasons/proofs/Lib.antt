mod ItemLemmas
mod PartLemmas
mod ReadingLemmas
mod Worked
pub mod FromRequestParts
