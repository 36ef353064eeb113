-- Lemmas of `roles`, passed on.
pub use Rattle.builder_spec.proofs.FromRoles.OwedLaws
