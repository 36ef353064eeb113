mod SoundLemmas
mod LegalLemmas
mod HeadlineLemmas
mod ShownLemmas
mod RunsLemmas
mod EndsLemmas
mod ClosesLemmas
pub mod FromLedgerSpec
