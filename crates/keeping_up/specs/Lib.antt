pub mod KeepsUp
pub mod Told
pub mod Rows
