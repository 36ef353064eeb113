pub mod Equal
pub mod Laws
pub mod Orders
pub mod Totals
-- the crates below, passed on
pub use Rattle.collections.specs as Collections
