pub mod Applicable
pub mod Told
pub mod Seen
pub mod Lines
pub mod Json
pub mod Rows
pub mod ListsSupport
