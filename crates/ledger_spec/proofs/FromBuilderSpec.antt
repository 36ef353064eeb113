-- Lemmas of `builder_spec`, passed on.
pub use Rattle.builder_spec.proofs.FrontsLaws
pub use Rattle.builder_spec.proofs.FundsLaws
pub use Rattle.builder_spec.proofs.HoldingLaws
pub use Rattle.builder_spec.proofs.OnePartLaws
pub use Rattle.builder_spec.proofs.SufficesLaws
