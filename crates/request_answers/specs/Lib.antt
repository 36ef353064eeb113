pub mod Reasoned
pub mod Commands
pub mod Asking
pub mod Reading
pub mod Encoding
pub mod Definition
pub mod Playing
pub mod AskingSupport
-- the crates below, passed on
pub use Rattle.refusal_objects.specs as RefusalObjects
pub use Rattle.line_objects.specs as LineObjects
pub use Rattle.marlowe_trace.specs as MarloweTrace
pub use Rattle.marlowe_analyse.specs as MarloweAnalyse
pub use Rattle.request_reasons.specs as RequestReasons
