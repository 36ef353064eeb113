pub mod LawLemmas
pub mod NotesLemmas
