pub mod HolderLemmas
pub mod EndsLemmas
pub mod TotalLemmas
pub mod SumLemmas
pub mod SortedLemmas
pub mod HoldingsLemmas
pub mod WorkedLemmas
