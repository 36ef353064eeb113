mod FoundLemmas
mod LineLemmas
