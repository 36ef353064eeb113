-- Lemmas of `collections`, passed on.
pub use Rattle.contract.proofs.FromCollections.Places
