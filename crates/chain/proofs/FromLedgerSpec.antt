-- Lemmas of `ledger_spec`, passed on.
pub use Rattle.builder_laws.proofs.FromLedgerSpec.ReplayLaws
pub use Rattle.builder_laws.proofs.FromLedgerSpec.StepLaws
