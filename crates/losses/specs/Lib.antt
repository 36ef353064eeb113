pub mod Losses
pub mod Told
pub mod Rows
