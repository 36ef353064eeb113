pub mod KeyLemmas
mod Worked
