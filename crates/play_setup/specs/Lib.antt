pub mod SetUp
pub mod Refusals
pub mod SetUpSupport
-- the crates below, passed on
pub use Rattle.parties.specs.LedgerSpec
pub use Rattle.parties.specs.LedgerSpec.BuilderSpec
pub use Rattle.json_read_scenarios.specs as JsonReadScenarios
pub use Rattle.marlowe_refusals.specs as MarloweRefusals
pub use Rattle.setup_refusals.specs as SetupRefusals
pub use Rattle.play_lines.specs as PlayLines
