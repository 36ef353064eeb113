mod PartsFit
pub mod WithinLaws
pub mod FromSemantics
pub mod FromJsonWriteContracts
pub mod FromContractJson
