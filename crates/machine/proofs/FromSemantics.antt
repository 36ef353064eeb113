-- Lemmas of `semantics`, passed on.
pub use Rattle.semantics.proofs.Integers
pub use Rattle.semantics.proofs.Matching
