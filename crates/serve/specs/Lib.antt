pub mod Defining
pub mod Answers
pub mod Streams
pub mod StreamsSupport
-- the crates below, passed on
pub use Rattle.request_answers.specs.Playing
pub use Rattle.request_answers.specs.RequestReasons.JsonForms
pub use Rattle.request_answers.specs.RequestReasons.JsonMembers
pub use Rattle.request_answers.specs.RefusalObjects
pub use Rattle.request_answers.specs.LineObjects
pub use Rattle.request_answers.specs.MarloweTrace.MarloweRun
pub use Rattle.request_answers.specs.MarloweTrace
pub use Rattle.request_answers.specs.MarloweAnalyse
pub use Rattle.request_answers.specs.RequestReasons.MarloweNext
pub use Rattle.request_answers.specs.RequestReasons.RefusalReasons
pub use Rattle.request_answers.specs.RequestReasons.Scenarios
pub use Rattle.lines_in.specs as LinesIn
