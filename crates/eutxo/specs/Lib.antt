pub mod Faults
pub mod Found
pub mod Asked
pub mod Differing
pub mod Rules
pub mod Blocks
pub mod Local
pub mod Checks
pub mod Judgement
pub mod Laws
pub mod OneContract
pub mod BlockLaws
pub mod Worked
pub mod FoundSupport
pub mod BlocksSupport
pub mod ChangesSupport
-- the crates below, passed on
pub use Rattle.contract.specs.Collections
pub use Rattle.contract.specs.Names
pub use Rattle.eutxo_types.specs.ContractBytes
pub use Rattle.eutxo_types.specs.Semantics
pub use Rattle.eutxo_types.specs.Machine
pub use Rattle.eutxo_types.specs.Bundle
pub use Rattle.eutxo_types.specs as EutxoTypes
