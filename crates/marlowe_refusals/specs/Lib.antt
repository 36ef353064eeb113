pub mod Faults
pub mod Refusals
pub mod TableFaults
pub mod TraceFaults
