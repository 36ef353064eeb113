pub mod SetUpLemmas
