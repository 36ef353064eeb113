pub mod Reasons
pub mod Reasoned
pub mod LooksSupport
-- the crates below, passed on
pub use Rattle.marlowe_explain.specs.Semantics
pub use Rattle.explanations.specs.JsonReadNames
pub use Rattle.explanations.specs.JsonForms
pub use Rattle.explanations.specs.JsonMembers
pub use Rattle.explanations.specs.JsonStops
pub use Rattle.explanations.specs.ScenarioStops
pub use Rattle.explanations.specs.ToldParts
pub use Rattle.explanations.specs as Explanations
pub use Rattle.marlowe_explain.specs.MarloweRefusals
pub use Rattle.marlowe_explain.specs.MarloweRun
pub use Rattle.marlowe_explain.specs.MarloweNext
