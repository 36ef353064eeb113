mod ListLemmas
mod RoundLemmas
mod KeepLemmas
mod KeptLemmas
mod GenesisLemmas
pub mod FromLedgerLaws
pub mod FromLedgerSpec
