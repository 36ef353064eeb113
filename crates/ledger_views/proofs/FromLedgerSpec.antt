-- Lemmas of `ledger_spec`, passed on.
pub use Rattle.ledger_kept.proofs.FromLedgerSpec.CallsLaws
pub use Rattle.ledger_kept.proofs.FromLedgerSpec.InstanceLaws
pub use Rattle.ledger_kept.proofs.FromLedgerSpec.LegalLaws
pub use Rattle.ledger_kept.proofs.FromLedgerSpec.PublishingLaws
pub use Rattle.ledger_kept.proofs.FromLedgerSpec.ReplayLaws
pub use Rattle.ledger_kept.proofs.FromLedgerSpec.StartsLaws
pub use Rattle.ledger_kept.proofs.FromLedgerSpec.StepLaws
