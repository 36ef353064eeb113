pub mod ListedValues
pub mod ListedContract
pub mod SymbolsOf
pub mod AddsLaws
pub mod ListedLaws
mod WholeText
