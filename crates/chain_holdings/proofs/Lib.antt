pub mod AgainLemmas
pub mod StillLemmas
pub mod TallyLemmas
pub mod CreatedLemmas
pub mod AfterLemmas
