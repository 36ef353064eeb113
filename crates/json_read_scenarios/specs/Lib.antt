pub mod Named
pub mod Names
pub mod ReadsPlan
pub mod ReadsScenario
