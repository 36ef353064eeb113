pub mod Places
pub mod Texts
pub mod Laws
pub mod Rows
