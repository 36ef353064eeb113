pub mod Question
pub mod Applicable
pub mod Answer
pub mod Rows
pub mod AnswerSupport
-- the crates below, passed on
pub use Rattle.marlowe_run.specs.Semantics
pub use Rattle.analysis_spec.specs as AnalysisSpec
pub use Rattle.trace.specs as Trace
pub use Rattle.marlowe_run.specs.JsonReadContracts
pub use Rattle.marlowe_run.specs.JsonReadInputs
pub use Rattle.json_read_transactions.specs as JsonReadTransactions
pub use Rattle.marlowe_run.specs.JsonWriteContracts
pub use Rattle.places.specs as Places
pub use Rattle.marlowe_run.specs.MarloweRefusals
pub use Rattle.next_lines.specs as NextLines
pub use Rattle.marlowe_run.specs as MarloweRun
