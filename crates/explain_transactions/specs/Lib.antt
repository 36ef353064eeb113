pub mod Moves
pub mod Explained
pub mod Laws
pub mod Rows
pub mod Support
