pub mod Notes
pub mod Lacking
pub mod Intents
pub mod Rows
