pub mod Uses
pub mod Resolutions
pub mod TimeLocks
pub mod WhatsNext
pub mod TimeLocksSupport
