pub mod LeftLemmas
pub mod SumsLemmas
pub mod OutputLemmas
pub mod OwedLaws
pub mod PutLaws
pub mod PublicationsLemmas
mod DueLemmas
mod WorkedLemmas
pub mod FromSemantics
pub mod FromBundle
pub mod FromEutxo
