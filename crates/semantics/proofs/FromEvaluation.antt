-- Lemmas of `evaluation`, passed on.
pub use Rattle.evaluation.proofs.Numbers
