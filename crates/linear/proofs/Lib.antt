pub mod NumberLaws
pub mod LinearLaws
pub mod WalkLemmas
pub mod QueryLemmas
pub mod ChainLemmas
pub mod RangeLaws
pub mod DivisionLaws
pub mod ResultRangeLemmas
