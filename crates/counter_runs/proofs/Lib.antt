mod ClosingLemmas
