pub mod Runs
pub mod Marks
pub mod Places
pub mod Promises
pub mod Analysed
pub mod CounterRuns
pub mod PlacedRuns
pub mod Rows
