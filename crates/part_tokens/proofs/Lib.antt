pub mod PassingLemmas
mod Worked
