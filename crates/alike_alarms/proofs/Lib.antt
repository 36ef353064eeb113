mod PartLemmas
mod TellerLemmas
mod HeadLemmas
