mod DealingLemmas
mod JobsLemmas
