pub mod Matched
pub mod Spelling
-- the crates below, passed on
pub use Rattle.contract_bytes.specs as ContractBytes
pub use Rattle.semantics.specs.Evaluation
pub use Rattle.semantics.specs as Semantics
pub use Rattle.table.specs as Table
