-- Lemmas of `ledger_spec`, passed on.
pub use Rattle.ledger_spec.proofs.ReplayLaws
pub use Rattle.ledger_spec.proofs.StepLaws
