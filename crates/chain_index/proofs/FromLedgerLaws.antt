-- Lemmas of `ledger_laws`, passed on.
pub use Rattle.ledger_spec.proofs.FromLedgerLaws.AcceptedLaws
pub use Rattle.ledger_spec.proofs.FromLedgerLaws.MadeLaws
pub use Rattle.ledger_spec.proofs.FromLedgerLaws.PartLaws
pub use Rattle.ledger_spec.proofs.FromLedgerLaws.PlainLaws
pub use Rattle.ledger_spec.proofs.FromLedgerLaws.ReferenceLaws
pub use Rattle.ledger_spec.proofs.FromLedgerLaws.SpineLaws
