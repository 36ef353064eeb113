pub mod Traces
pub mod Warned
pub mod Paths
pub mod Rows
pub mod SteppingSupport
