-- Lemmas of `ledger_laws`, passed on.
pub use Rattle.ledger_laws.proofs.AcceptedLaws
pub use Rattle.ledger_laws.proofs.DatumLaws
pub use Rattle.ledger_laws.proofs.FindingLemmas
pub use Rattle.ledger_laws.proofs.FreshLemmas
pub use Rattle.ledger_laws.proofs.JudgedLemmas
pub use Rattle.ledger_laws.proofs.MadeLaws
pub use Rattle.ledger_laws.proofs.PairedLemmas
pub use Rattle.ledger_laws.proofs.PartLaws
pub use Rattle.ledger_laws.proofs.PlainLaws
pub use Rattle.ledger_laws.proofs.ReferenceLaws
pub use Rattle.ledger_laws.proofs.SpineLaws
