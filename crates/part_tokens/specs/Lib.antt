pub mod PartTokens
pub mod Rows
