pub mod PieceLemmas
pub mod NotesLemmas
pub mod Worked
