pub mod Requests
pub mod Holding
pub mod Fronts
pub mod Causes
pub mod Laying
pub mod Steps
pub mod Parts
pub mod Closings
pub mod Starts
pub mod Change
pub mod Claims
pub mod Built
pub mod FrontsSupport
-- the crates below, passed on
pub use Rattle.contract.specs.Names
pub use Rattle.ledger.specs.ContractBytes
pub use Rattle.ledger.specs.Evaluation
pub use Rattle.ledger.specs.Semantics
pub use Rattle.ledger.specs.Nodes
pub use Rattle.ledger.specs.Table
pub use Rattle.ledger.specs.Machine
pub use Rattle.ledger.specs.Compiler
pub use Rattle.ledger.specs.Bundle
pub use Rattle.ledger.specs.EutxoTypes
pub use Rattle.ledger.specs.Eutxo
pub use Rattle.ledger.specs.Roles
pub use Rattle.ledger.specs as Ledger
