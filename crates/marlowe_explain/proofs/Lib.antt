pub mod IndentLemmas
mod Worked
