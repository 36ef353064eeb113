mod PieceLemmas
mod ListedLemmas
mod Worked
