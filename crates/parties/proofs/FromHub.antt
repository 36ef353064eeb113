-- Lemmas of `hub`, passed on.
pub use Rattle.hub.proofs.Crossing
