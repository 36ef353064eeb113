mod ChainLemmas
mod RepeatLemmas
mod FormLemmas
mod FaultLemmas
pub mod StopLemmas
mod Worked
