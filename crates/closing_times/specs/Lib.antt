pub mod Closing
pub mod Rows
