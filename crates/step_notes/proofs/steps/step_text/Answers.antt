use Rattle.machine.specs.Table.AlongLaws.{along_tree}
use Rattle.step_notes.proofs.steps.step_text.Goals as goal

-- the place to which a step leads is one of the table
pub spelled-requires : goal.spelled-requires
spelled-requires c = (along_tree _ _ _ c.in-Ok.outcome.place (c.contains.ensures.stands.0 c.if-not-contains.false) c.in-Ok.ensures.place).0
