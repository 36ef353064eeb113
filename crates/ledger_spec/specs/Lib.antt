pub mod Replay
pub mod Genesis
pub mod Views
pub mod Records
pub mod Calls
pub mod Legal
pub mod Publishing
pub mod Standing
pub mod Shown
pub mod Open
pub mod AcceptedAt
pub mod ThreadsShown
pub mod Headline
-- the crates below, passed on
pub use Rattle.builder_spec.specs.ContractBytes
pub use Rattle.builder_spec.specs.Evaluation
pub use Rattle.builder_spec.specs.Semantics
pub use Rattle.builder_spec.specs.Nodes
pub use Rattle.builder_spec.specs.Table
pub use Rattle.builder_spec.specs.Machine
pub use Rattle.builder_spec.specs.Compiler
pub use Rattle.builder_spec.specs.Bundle
pub use Rattle.builder_spec.specs.EutxoTypes
pub use Rattle.builder_spec.specs.Eutxo
pub use Rattle.builder_spec.specs.Roles
pub use Rattle.builder_spec.specs.Ledger
pub use Rattle.builder_spec.specs as BuilderSpec
pub use Rattle.ledger_laws.specs as LedgerLaws
