pub mod Holders
pub mod Holdings
pub mod HoldingLines
pub mod Rows
pub mod SumsSupport
