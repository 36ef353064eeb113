pub mod PlayLines
pub mod Worked
