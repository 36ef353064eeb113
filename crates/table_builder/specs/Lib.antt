pub mod Putting
pub mod Indexing
