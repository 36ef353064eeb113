mod PieceLemmas
mod WorkedLemmas
