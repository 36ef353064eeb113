mod LinesLemmas
mod WrittenLemmas
