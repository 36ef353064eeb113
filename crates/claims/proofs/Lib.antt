pub mod Numbers
pub mod Apart
pub mod Owners
pub mod Joining
