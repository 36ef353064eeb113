-- Lemmas of `semantics`, passed on.
pub use Rattle.builder_spec.proofs.FromSemantics.Integers
