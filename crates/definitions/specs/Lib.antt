pub mod Named
pub mod NamedSupport
