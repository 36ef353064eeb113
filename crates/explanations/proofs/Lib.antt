pub mod IndexLemmas
pub mod ExplainLemmas
mod Worked
