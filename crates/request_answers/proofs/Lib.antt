pub mod ReasonLaws
mod ReasonLemmas
mod AskingLemmas
pub mod FromRequestParts
