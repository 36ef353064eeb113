pub mod WrittenInput
pub mod WrittenText
pub mod Puts
pub mod Readable
pub mod InputSymbols
pub mod ReadsOutcome
pub mod PartAt
