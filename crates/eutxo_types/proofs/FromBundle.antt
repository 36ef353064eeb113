-- Lemmas of `bundle`, passed on.
pub use Rattle.bundle.proofs.AmountLaws
pub use Rattle.bundle.proofs.ApartLaws
pub use Rattle.bundle.proofs.CoverLaws
pub use Rattle.bundle.proofs.PositiveLaws
pub use Rattle.bundle.proofs.SearchLaws
