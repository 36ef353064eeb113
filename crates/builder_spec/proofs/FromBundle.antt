-- Lemmas of `bundle`, passed on.
pub use Rattle.ledger.proofs.FromBundle.AmountLaws
pub use Rattle.ledger.proofs.FromBundle.ApartLaws
pub use Rattle.ledger.proofs.FromBundle.CoverLaws
pub use Rattle.ledger.proofs.FromBundle.PositiveLaws
