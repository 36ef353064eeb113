pub mod SpellingLemmas
pub mod WorkedLemmas
pub mod FromSemantics
pub mod FromBundle
