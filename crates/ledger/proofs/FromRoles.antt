-- Lemmas of `roles`, passed on.
pub use Rattle.roles.proofs.OwedLaws
pub use Rattle.roles.proofs.PutLaws
