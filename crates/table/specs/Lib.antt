pub mod Heights
pub mod Flat
pub mod LevelLaws
pub mod Pushing
pub mod Along
pub mod AlongLaws
pub mod Leaves
pub mod Hashing
pub mod DecompileSupport
-- the crates below, passed on
pub use Rattle.contract.specs.Collections
pub use Rattle.contract.specs.Names
pub use Rattle.evaluation.specs as Evaluation
pub use Rattle.nodes.specs as Nodes
