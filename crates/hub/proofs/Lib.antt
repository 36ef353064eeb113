pub mod Crossing
pub mod SeatsLemmas
