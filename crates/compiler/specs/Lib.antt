pub mod Limits
-- the crates below, passed on
pub use Rattle.table.specs.Evaluation
pub use Rattle.table.specs.Nodes
pub use Rattle.table.specs as Table
pub use Rattle.lowering.specs as Lowering
