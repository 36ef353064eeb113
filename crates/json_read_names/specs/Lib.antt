pub mod Parts
pub mod Forms
pub mod ReadsNames
pub mod ReadsText
