pub mod KeyLemmas
pub mod GainLemmas
pub mod NoteLemmas
pub mod Worked
