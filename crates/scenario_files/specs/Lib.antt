pub mod ScenarioFiles
pub mod Paths
pub mod Rows
