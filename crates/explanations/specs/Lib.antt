pub mod TextLines
pub mod Indexes
pub mod Explained
pub mod Rows
pub mod ExplainedSupport
-- the crates below, passed on
pub use Rattle.json_read_names.specs as JsonReadNames
pub use Rattle.json_forms.specs as JsonForms
pub use Rattle.json_members.specs as JsonMembers
pub use Rattle.json_stops.specs as JsonStops
pub use Rattle.told_parts.specs as ToldParts
pub use Rattle.scenario_stops.specs as ScenarioStops
