pub mod Faults
pub mod Notes
pub mod Strict
pub mod Played
pub mod PlayedSupport
-- the crates below, passed on
pub use Rattle.json_read_names.specs as JsonReadNames
pub use Rattle.parties.specs.Plans
pub use Rattle.play_setup.specs.JsonReadScenarios
pub use Rattle.play_endings.specs.MarloweRefusals
pub use Rattle.play_setup.specs.SetupRefusals
