mod LookLemmas
mod LinkLemmas
mod StartLemmas
mod BroughtLemmas
mod NextRecordLemmas
mod RecordsLemmas
pub mod FromLedgerLaws
pub mod FromLedgerSpec
