pub mod ObjectLemmas
mod Worked
