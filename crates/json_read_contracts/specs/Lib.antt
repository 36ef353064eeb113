pub mod ReadsContract
pub mod ReadsSupport
