pub mod Parts
pub mod Scenarios
pub mod Reasons
pub mod Rows
pub mod PartsSupport
-- the crates below, passed on
pub use Rattle.refusal_reasons.specs.JsonForms
pub use Rattle.refusal_reasons.specs.JsonMembers
pub use Rattle.refusal_reasons.specs.MarloweNext
pub use Rattle.refusal_reasons.specs as RefusalReasons
pub use Rattle.requests.specs as Requests
pub use Rattle.definitions.specs as Definitions
pub use Rattle.request_parts.specs as RequestParts
