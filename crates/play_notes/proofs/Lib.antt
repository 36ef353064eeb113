mod NotesLemmas
mod WorkedLemmas
