pub mod ReadsInput
pub mod ReadsNumber
pub mod ReadsState
pub mod Rows
