-- Lemmas of `semantics`, passed on.
pub use Rattle.ledger.proofs.FromSemantics.Integers
pub use Rattle.ledger.proofs.FromSemantics.Matching
