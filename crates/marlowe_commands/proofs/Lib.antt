mod NoteLemmas
mod TaskLemmas
mod ShownLemmas
mod FileLemmas
