pub mod SpotLemmas
pub mod ShownLemmas
mod Worked
