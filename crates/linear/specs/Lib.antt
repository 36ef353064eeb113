pub mod Linear
pub mod Combined
pub mod Bounded
pub mod Ranged
pub mod ResultRanges
pub mod WalkSupport
pub mod ChainSupport
