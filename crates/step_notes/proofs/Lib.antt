mod CasesLemmas
mod PieceLemmas
mod WorkedLemmas
