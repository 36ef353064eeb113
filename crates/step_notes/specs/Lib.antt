pub mod StepLines
pub mod StepObjects
pub mod Steps
pub mod Rows
