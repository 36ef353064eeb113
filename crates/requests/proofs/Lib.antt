pub mod LineLemmas
pub mod SoleLemmas
