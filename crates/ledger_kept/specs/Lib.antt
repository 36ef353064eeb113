pub mod Kept
pub mod TallySupport
pub mod GenesisSupport
-- the crates below, passed on
pub use Rattle.chain_index.specs.Semantics
pub use Rattle.chain_index.specs.Nodes
pub use Rattle.chain_index.specs.Table
pub use Rattle.chain_index.specs.Machine
pub use Rattle.chain_index.specs.Compiler
pub use Rattle.chain_index.specs.Bundle
pub use Rattle.chain_index.specs.EutxoTypes
pub use Rattle.chain_index.specs.Eutxo
pub use Rattle.chain_index.specs.Roles
pub use Rattle.chain_index.specs.Ledger
pub use Rattle.chain_index.specs.BuilderSpec
pub use Rattle.chain_index.specs.LedgerLaws
pub use Rattle.chain_index.specs.LedgerSpec
pub use Rattle.chain_index.specs as ChainIndex
