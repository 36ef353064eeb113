-- Lemmas of `bundle`, passed on.
pub use Rattle.builder_spec.proofs.FromBundle.AmountLaws
pub use Rattle.builder_spec.proofs.FromBundle.PositiveLaws
