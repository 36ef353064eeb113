mod NamedLaws
pub mod PlaceLaws
mod ScenarioLaws
