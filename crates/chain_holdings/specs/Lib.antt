pub mod After
pub mod CreatedSupport
pub mod StillSupport
