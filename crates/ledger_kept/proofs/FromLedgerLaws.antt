-- Lemmas of `ledger_laws`, passed on.
pub use Rattle.chain_index.proofs.FromLedgerLaws.AcceptedLaws
pub use Rattle.chain_index.proofs.FromLedgerLaws.MadeLaws
pub use Rattle.chain_index.proofs.FromLedgerLaws.PartLaws
pub use Rattle.chain_index.proofs.FromLedgerLaws.PlainLaws
pub use Rattle.chain_index.proofs.FromLedgerLaws.ReferenceLaws
pub use Rattle.chain_index.proofs.FromLedgerLaws.SpineLaws
