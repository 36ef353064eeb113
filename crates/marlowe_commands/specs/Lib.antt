pub mod Streams
pub mod Tasks
pub mod Files
pub mod Serving
