pub mod Traced
pub mod Laws
-- the crates below, passed on
pub use Rattle.marlowe_run.specs.Semantics
pub use Rattle.marlowe_run.specs.JsonReadNames
pub use Rattle.marlowe_run.specs.JsonReadContracts
pub use Rattle.marlowe_run.specs.JsonWriteContracts
pub use Rattle.marlowe_run.specs.JsonWriteOutcomes
pub use Rattle.marlowe_run.specs.ContractJson
pub use Rattle.marlowe_run.specs.MarloweRefusals
pub use Rattle.marlowe_run.specs as MarloweRun
