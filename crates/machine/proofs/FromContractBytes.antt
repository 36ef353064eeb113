-- Lemmas of `contract_bytes`, passed on.
pub use Rattle.contract_bytes.proofs.Apart
pub use Rattle.contract_bytes.proofs.ApartNames
pub use Rattle.contract_bytes.proofs.Fronts
