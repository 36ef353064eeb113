-- Lemmas of `semantics`, passed on.
pub use Rattle.machine.proofs.FromSemantics.Integers
pub use Rattle.machine.proofs.FromSemantics.Matching
