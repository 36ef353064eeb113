-- Lemmas of `request_parts`, passed on.
pub use Rattle.request_reasons.proofs.FromRequestParts.FitLaws
