pub mod ReadsTransactions
pub mod Rows
pub mod TakingSupport
