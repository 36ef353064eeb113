mod PieceLemmas
mod ReadingLemmas
mod ReasonedLemmas
mod SequenceLemmas
mod LookLemmas
