pub mod Spots
pub mod Shown
pub mod Rows
pub mod SpotsSupport
