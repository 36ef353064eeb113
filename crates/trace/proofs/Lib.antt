pub mod Joining
pub mod Worked
pub mod SteppingLemmas
pub mod ReducingLemmas
pub mod OpeningLemmas
pub mod PathsLemmas
pub mod WarnedLemmas
