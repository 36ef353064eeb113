pub mod DepthLemmas
pub mod RefusedLemmas
mod Worked
