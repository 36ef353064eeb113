-- Lemmas of `json_write_contracts`, passed on.
pub use Rattle.json_write_contracts.proofs.ListedLaws
