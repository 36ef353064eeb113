pub mod Refusals
pub mod Parts
pub mod Answered
pub mod Given
pub mod PartsSupport
