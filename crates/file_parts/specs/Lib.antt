pub mod Files
pub mod Rows
pub mod FilesSupport
