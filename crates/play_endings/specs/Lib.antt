pub mod Endings
pub mod EndingLines
pub mod StepTexts
pub mod Rows
-- the crates below, passed on
pub use Rattle.ledger.specs.Table
pub use Rattle.ledger.specs.EutxoTypes
pub use Rattle.ledger.specs.Roles
pub use Rattle.ledger.specs as Ledger
pub use Rattle.play_objects.specs.Plans
pub use Rattle.play_objects.specs.PlayNotes
pub use Rattle.play_objects.specs.StepNotes
pub use Rattle.play_objects.specs as PlayObjects
pub use Rattle.play_objects.specs.MarloweRefusals
pub use Rattle.play_objects.specs.PlayHoldings
