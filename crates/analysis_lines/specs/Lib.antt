pub mod ToldLines
pub mod Lines
pub mod Tools
pub mod Kept
