pub mod Law
pub mod Notes
