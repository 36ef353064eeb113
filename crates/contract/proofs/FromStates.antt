-- Lemmas of `states`, passed on.
pub use Rattle.states.proofs.Accounts
pub use Rattle.states.proofs.States
