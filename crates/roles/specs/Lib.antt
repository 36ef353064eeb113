pub mod Sums
pub mod Terms
pub mod Steps
pub mod Owed
pub mod Worked
pub mod Publications
pub mod LeftSupport
-- the crates below, passed on
pub use Rattle.eutxo.specs.ContractBytes
pub use Rattle.compiler.specs.Evaluation
pub use Rattle.eutxo.specs.Semantics
pub use Rattle.compiler.specs.Nodes
pub use Rattle.compiler.specs.Table
pub use Rattle.eutxo.specs.Machine
pub use Rattle.compiler.specs as Compiler
pub use Rattle.eutxo.specs.Bundle
pub use Rattle.eutxo.specs.EutxoTypes
pub use Rattle.eutxo.specs as Eutxo
