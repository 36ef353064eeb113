pub mod Keeping
pub mod Forms
pub mod Made
pub mod Trees
pub mod Codes
pub mod Cases
pub mod Examples
