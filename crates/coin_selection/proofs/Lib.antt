pub mod ListLaws
pub mod SingleLemmas
pub mod SharesLemmas
pub mod StartFrontLemmas
pub mod HalvesLemmas
pub mod RequiredLemmas
pub mod EnoughLemmas
pub mod RoleTokenLemmas
pub mod MeetLemmas
pub mod MissingLemmas
mod PutLemmas
