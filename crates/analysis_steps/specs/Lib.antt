pub mod Amounts
pub mod Moved
pub mod Chosen
pub mod Earlier
pub mod Times
