-- Lemmas of `ledger_laws`, passed on.
pub use Rattle.ledger_kept.proofs.FromLedgerLaws.AcceptedLaws
pub use Rattle.ledger_kept.proofs.FromLedgerLaws.MadeLaws
pub use Rattle.ledger_kept.proofs.FromLedgerLaws.PartLaws
pub use Rattle.ledger_kept.proofs.FromLedgerLaws.PlainLaws
pub use Rattle.ledger_kept.proofs.FromLedgerLaws.ReferenceLaws
pub use Rattle.ledger_kept.proofs.FromLedgerLaws.SpineLaws
