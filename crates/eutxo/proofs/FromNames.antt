-- Lemmas of `names`, passed on.
pub use Rattle.contract.proofs.FromNames.Exact
