pub mod Replies
pub mod Shown
pub mod ResolveSupport
-- the crates below, passed on
pub use Rattle.roles.specs.ContractBytes
pub use Rattle.roles.specs.Evaluation
pub use Rattle.roles.specs.Semantics
pub use Rattle.roles.specs.Nodes
pub use Rattle.roles.specs.Table
pub use Rattle.roles.specs.Machine
pub use Rattle.roles.specs.Compiler
pub use Rattle.roles.specs.Bundle
pub use Rattle.roles.specs.EutxoTypes
pub use Rattle.roles.specs.Eutxo
pub use Rattle.roles.specs as Roles
