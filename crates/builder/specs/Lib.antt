pub mod ClashSupport
pub mod FundsSupport
pub mod OutputsSupport
pub mod PartsSupport
