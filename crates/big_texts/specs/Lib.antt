pub mod BigTexts
pub mod Lines
pub mod Laws
pub mod Rows
