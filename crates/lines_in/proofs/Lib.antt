pub mod FeedLemmas
pub mod LinesLemmas
