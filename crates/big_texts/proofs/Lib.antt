pub mod TokenLaws
pub mod LineLaws
pub mod LoopLemmas
pub mod StateLaws
pub mod Worked
