pub mod Depths
pub mod Lines
pub mod Explained
pub mod Rows
pub mod DepthsSupport
