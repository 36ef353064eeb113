-- Lemmas of `collections`, passed on.
pub use Rattle.states.proofs.FromCollections.Halving
pub use Rattle.states.proofs.FromCollections.Maps
pub use Rattle.states.proofs.FromCollections.Places
pub use Rattle.states.proofs.FromCollections.Positive
pub use Rattle.states.proofs.FromCollections.SameLaws
pub use Rattle.states.proofs.FromCollections.Total
