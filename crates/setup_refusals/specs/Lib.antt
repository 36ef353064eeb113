pub mod SetupRefusals
pub mod Rows
