pub mod EqualLaws
pub mod Exact
pub mod FromCollections
