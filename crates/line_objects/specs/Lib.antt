pub mod Objects
pub mod Worked
