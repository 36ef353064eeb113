-- Lemmas of `bundle`, passed on.
pub use Rattle.roles.proofs.FromBundle.AmountLaws
pub use Rattle.roles.proofs.FromBundle.ApartLaws
pub use Rattle.roles.proofs.FromBundle.CoverLaws
pub use Rattle.roles.proofs.FromBundle.PositiveLaws
