pub mod Digests
pub mod Fitting
pub mod Ids
pub mod Numbers
pub mod Parts
pub mod Spelling
pub mod Worked
-- the crates below, passed on
pub use Rattle.machine.specs.ContractBytes
pub use Rattle.machine.specs.Semantics
pub use Rattle.machine.specs as Machine
pub use Rattle.bundle.specs as Bundle
