pub mod HubSupport
pub mod Seats
pub mod Session
-- the crates below, passed on
pub use Rattle.eutxo_types.specs as EutxoTypes
pub use Rattle.ledger.specs as Ledger
pub use Rattle.chain.specs.LedgerSpec
