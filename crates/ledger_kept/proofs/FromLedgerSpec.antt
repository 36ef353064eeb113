-- Lemmas of `ledger_spec`, passed on.
pub use Rattle.chain_index.proofs.FromLedgerSpec.CallsLaws
pub use Rattle.chain_index.proofs.FromLedgerSpec.InstanceLaws
pub use Rattle.chain_index.proofs.FromLedgerSpec.LegalLaws
pub use Rattle.chain_index.proofs.FromLedgerSpec.PublishingLaws
pub use Rattle.chain_index.proofs.FromLedgerSpec.ReplayLaws
pub use Rattle.chain_index.proofs.FromLedgerSpec.StartsLaws
pub use Rattle.chain_index.proofs.FromLedgerSpec.StepLaws
