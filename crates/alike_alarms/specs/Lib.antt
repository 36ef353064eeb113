pub mod Alike
pub mod AlikeSupport
