pub mod Each
pub mod WrittenOutcome
pub mod Puts
