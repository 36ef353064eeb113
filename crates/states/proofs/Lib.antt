pub mod Accounts
pub mod Fed
pub mod SameStates
pub mod Starting
pub mod States
pub mod FromCollections
pub mod FromNames
