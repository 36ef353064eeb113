pub mod LastLemmas
pub mod RunLemmas
pub mod WorkedLemmas
