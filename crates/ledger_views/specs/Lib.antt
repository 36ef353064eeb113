pub mod ViewsSupport
pub mod RecordsSupport
-- the crates below, passed on
pub use Rattle.ledger_kept.specs.Machine
pub use Rattle.ledger_kept.specs.Compiler
pub use Rattle.ledger_kept.specs.EutxoTypes
pub use Rattle.ledger_kept.specs.Eutxo
pub use Rattle.ledger_kept.specs.Roles
pub use Rattle.ledger_kept.specs.Ledger
pub use Rattle.ledger_kept.specs.BuilderSpec
pub use Rattle.ledger_kept.specs.LedgerLaws
pub use Rattle.ledger_kept.specs.LedgerSpec
pub use Rattle.ledger_kept.specs.ChainIndex
pub use Rattle.ledger_kept.specs as LedgerKept
