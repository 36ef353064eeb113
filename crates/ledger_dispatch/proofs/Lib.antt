mod TiedLemmas
mod RoundLemmas
mod PublishLemmas
