mod PlacesLemmas
pub mod PieceLaws
mod JsonLemmas
mod AdaLemmas
