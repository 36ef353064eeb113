-- Lemmas of `collections`, passed on.
pub use Rattle.names.proofs.FromCollections.Halving
pub use Rattle.names.proofs.FromCollections.Maps
pub use Rattle.names.proofs.FromCollections.Places
pub use Rattle.names.proofs.FromCollections.Positive
pub use Rattle.names.proofs.FromCollections.SameLaws
pub use Rattle.names.proofs.FromCollections.Total
