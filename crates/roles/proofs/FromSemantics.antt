-- Lemmas of `semantics`, passed on.
pub use Rattle.eutxo.proofs.FromSemantics.Integers
pub use Rattle.eutxo.proofs.FromSemantics.Matching
