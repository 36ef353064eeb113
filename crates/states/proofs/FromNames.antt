-- Lemmas of `names`, passed on.
pub use Rattle.names.proofs.EqualLaws
pub use Rattle.names.proofs.Exact
