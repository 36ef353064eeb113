-- Lemmas of `names`, passed on.
pub use Rattle.states.proofs.FromNames.EqualLaws
pub use Rattle.states.proofs.FromNames.Exact
