pub mod Plays
pub mod PlaysSupport
pub use Rattle.hub.specs.Seats
pub use Rattle.hub.specs.Session
pub use Rattle.hub.specs.declared.answer.Answer
-- the crates below, passed on
pub use Rattle.hub.specs.EutxoTypes
pub use Rattle.hub.specs.Ledger
pub use Rattle.hub.specs.LedgerSpec
pub use Rattle.plans.specs as Plans
pub use Rattle.hub.specs as Hub
