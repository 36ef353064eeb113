pub mod ChainSupport
-- the crates below, passed on
pub use Rattle.builder_laws.specs.LedgerSpec
