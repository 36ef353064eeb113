pub mod ReadsValue
pub mod ReadsAction
pub mod ReadsSupport
