-- Lemmas of `bundle`, passed on.
pub use Rattle.ledger_spec.proofs.FromBundle.AmountLaws
pub use Rattle.ledger_spec.proofs.FromBundle.PositiveLaws
