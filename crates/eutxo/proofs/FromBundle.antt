-- Lemmas of `bundle`, passed on.
pub use Rattle.eutxo_types.proofs.FromBundle.AmountLaws
pub use Rattle.eutxo_types.proofs.FromBundle.ApartLaws
pub use Rattle.eutxo_types.proofs.FromBundle.CoverLaws
pub use Rattle.eutxo_types.proofs.FromBundle.PositiveLaws
pub use Rattle.eutxo_types.proofs.FromBundle.SearchLaws
