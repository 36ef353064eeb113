-- Lemmas of `semantics`, passed on.
pub use Rattle.roles.proofs.FromSemantics.Integers
pub use Rattle.roles.proofs.FromSemantics.Matching
