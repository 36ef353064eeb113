pub mod Jobs
-- for the proofs alone
pub mod DealingSupport
