pub mod Crossing
mod NotesLemmas
mod StrictLemmas
mod PlayingLemmas
