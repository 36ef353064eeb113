pub mod Forms
pub mod Spelling
pub mod Lacking
pub mod Rows
