pub mod Laws
pub mod Tree
pub mod TreeInverse
-- the crates below, passed on
pub use Rattle.states.specs.Collections
pub use Rattle.states.specs.Names
pub use Rattle.states.specs as States
