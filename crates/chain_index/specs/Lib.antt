pub mod Moves
pub mod Data
pub mod Contents
pub mod Laws
pub mod HolesSupport
pub mod NamingSupport
pub mod PartsSupport
pub mod LocksSupport
pub mod UnderLocksSupport
-- the crates below, passed on
pub use Rattle.ledger_spec.specs.Semantics
pub use Rattle.ledger_spec.specs.Nodes
pub use Rattle.ledger_spec.specs.Table
pub use Rattle.ledger_spec.specs.Machine
pub use Rattle.ledger_spec.specs.Compiler
pub use Rattle.ledger_spec.specs.Bundle
pub use Rattle.ledger_spec.specs.EutxoTypes
pub use Rattle.ledger_spec.specs.Eutxo
pub use Rattle.ledger_spec.specs.Roles
pub use Rattle.ledger_spec.specs.Ledger
pub use Rattle.ledger_spec.specs.BuilderSpec
pub use Rattle.ledger_spec.specs.LedgerLaws
pub use Rattle.ledger_spec.specs as LedgerSpec
