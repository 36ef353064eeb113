pub mod Lines
pub mod Notes
pub mod Rows
