pub mod EntryObjects
pub mod IntentObjects
pub mod HoldingObjects
pub mod Rows
-- the crates below, passed on
pub use Rattle.plans.specs as Plans
pub use Rattle.marlowe_refusals.specs as MarloweRefusals
pub use Rattle.play_notes.specs as PlayNotes
pub use Rattle.step_notes.specs as StepNotes
pub use Rattle.play_holdings.specs as PlayHoldings
