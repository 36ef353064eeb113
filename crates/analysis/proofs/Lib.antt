mod ClosesLemmas
