pub mod There
pub mod Faults
pub mod Parts
pub mod Stops
pub mod StopsSupport
