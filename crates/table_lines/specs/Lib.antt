pub mod TableLines
pub mod Worked
