-- Lemmas of `collections`, passed on.
pub use Rattle.collections.proofs.Halving
pub use Rattle.collections.proofs.Maps
pub use Rattle.collections.proofs.Places
pub use Rattle.collections.proofs.Positive
pub use Rattle.collections.proofs.SameLaws
pub use Rattle.collections.proofs.Total
