pub mod Words
pub mod Told
pub mod Lines
pub mod Members
pub mod Rows
