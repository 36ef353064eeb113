pub mod Hashing
pub mod Laws
pub mod Start
pub mod StateCode
pub mod States
-- the crates below, passed on
pub use Rattle.names.specs.Collections
pub use Rattle.names.specs as Names
