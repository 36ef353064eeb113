pub mod PieceLemmas
pub mod SearchLemmas
pub mod ObjectLemmas
mod Worked
