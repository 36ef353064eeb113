-- Lemmas of `semantics`, passed on.
pub use Rattle.eutxo_types.proofs.FromSemantics.Integers
pub use Rattle.eutxo_types.proofs.FromSemantics.Matching
