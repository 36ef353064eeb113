-- Lemmas of `ledger_spec`, passed on.
pub use Rattle.ledger_spec.proofs.CallsLaws
pub use Rattle.ledger_spec.proofs.InstanceLaws
pub use Rattle.ledger_spec.proofs.LegalLaws
pub use Rattle.ledger_spec.proofs.PublishingLaws
pub use Rattle.ledger_spec.proofs.ReplayLaws
pub use Rattle.ledger_spec.proofs.StartsLaws
pub use Rattle.ledger_spec.proofs.StepLaws
