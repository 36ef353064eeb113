pub mod Matching
pub mod SpellingLaws
pub mod FromContractBytes
pub mod FromSemantics
