-- Lemmas of `semantics`, passed on.
pub use Rattle.semantics.proofs.Faults
