pub mod ComingLemmas
pub mod TriesLemmas
pub mod RunLemmas
