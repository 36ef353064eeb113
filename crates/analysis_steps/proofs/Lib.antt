pub mod AmountLemmas
pub mod MovedLemmas
pub mod ConcludedLemmas
pub mod TimeLemmas
pub mod ChosenLemmas
pub mod EarlierLemmas
pub mod CloseLaws
pub mod StartLemmas
