pub mod Answers
pub mod RequiredSupport
pub mod MissingSupport
pub mod MeetSupport
pub mod LimitsSupport
