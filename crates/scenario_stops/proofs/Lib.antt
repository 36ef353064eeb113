mod ChainLemmas
mod TurnLemmas
mod FaultLemmas
mod NameLemmas
mod StopLemmas
