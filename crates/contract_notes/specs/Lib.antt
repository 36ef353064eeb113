pub mod Reads
pub mod Notes
pub mod Parties
pub mod Laws
pub mod Coming
pub mod Rows
