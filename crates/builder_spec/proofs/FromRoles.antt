-- Lemmas of `roles`, passed on.
pub use Rattle.ledger.proofs.FromRoles.OwedLaws
pub use Rattle.ledger.proofs.FromRoles.PutLaws
