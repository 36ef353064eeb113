pub mod FormsRead
pub mod Repeats
pub mod Stops
pub mod Rows
pub mod StopsSupport
