pub mod Bundles
pub mod Laws
pub mod Totals
pub mod HashingSupport
pub mod WalksSupport
