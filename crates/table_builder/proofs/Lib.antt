pub mod PuttingLaws
mod IndexingLemmas
