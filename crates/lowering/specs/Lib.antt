pub mod Code
pub mod Sizes
pub mod Laws
pub mod Worked
pub mod Building
