pub mod Claims
pub mod Joining
