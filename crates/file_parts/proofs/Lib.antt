pub mod PieceLemmas
pub mod TextLemmas
pub mod ViewLemmas
pub mod Worked
