pub mod Lines
pub mod Members
pub mod Spelled
pub mod Explained
pub mod Rows
-- the crates below, passed on
pub use Rattle.marlowe_next.specs.Semantics
pub use Rattle.marlowe_next.specs.AnalysisSpec
pub use Rattle.marlowe_next.specs.Trace
pub use Rattle.marlowe_next.specs.JsonReadContracts
pub use Rattle.marlowe_next.specs.JsonReadInputs
pub use Rattle.marlowe_next.specs.JsonReadTransactions
pub use Rattle.marlowe_next.specs.JsonWriteContracts
pub use Rattle.marlowe_next.specs.MarloweRefusals
pub use Rattle.marlowe_next.specs.MarloweRun
pub use Rattle.marlowe_next.specs as MarloweNext
