-- Lemmas of `eutxo`, passed on.
pub use Rattle.eutxo.proofs.SameRefLaws
