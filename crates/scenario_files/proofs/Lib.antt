pub mod FileLemmas
pub mod WorkedLemmas
