pub mod RowsLemmas
pub mod MarkLemmas
mod CounterRunLemmas
mod PlaceLemmas
mod PlaceRowsLemmas
