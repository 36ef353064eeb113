pub mod Walk
pub mod Reduction
pub mod Settling
pub mod Applying
pub mod Transaction
pub mod Computed
pub mod PlainLaws
pub mod Reduced
pub mod Money
pub mod Naturals
pub mod Closing
pub mod Laws
pub mod Answer
pub mod Rows
-- the crates below, passed on
pub use Rattle.evaluation.specs as Evaluation
