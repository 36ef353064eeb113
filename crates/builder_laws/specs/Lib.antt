pub mod Accepting
pub mod AfterPasts
pub mod ShownThreads
pub mod AfterLast
-- the crates below, passed on
pub use Rattle.ledger_spec.specs as LedgerSpec
