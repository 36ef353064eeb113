pub mod KnownLaws
pub mod AccountLaws
pub mod AnsweredLaws
pub mod ReplacedLaws
pub mod NamedLaws
mod StepLemmas
mod TruthLemmas
mod TimeLemmas
mod LookupLemmas
mod NumberedLemmas
mod JunctionLemmas
mod BoundLemmas
