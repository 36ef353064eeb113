pub mod Known
pub mod Entries
pub mod Answered
pub mod Steps
pub mod Branches
pub mod Junctions
pub mod Replaced
