-- Lemmas of `bundle`, passed on.
pub use Rattle.eutxo.proofs.FromBundle.AmountLaws
pub use Rattle.eutxo.proofs.FromBundle.ApartLaws
pub use Rattle.eutxo.proofs.FromBundle.CoverLaws
pub use Rattle.eutxo.proofs.FromBundle.PositiveLaws
