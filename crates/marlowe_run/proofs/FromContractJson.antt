-- Lemmas of `contract_json`, passed on.
pub use Rattle.contract_json.proofs.InRange
pub use Rattle.contract_json.proofs.Whole
